-- What a value is. Assumes nothing.
use Rattle.std.specs.Prelude.{ℤ, Option, None, Some}
use Rattle.byte_valued.specs.declared.line_head.LineHead.{LineHead}
use Rattle.script.specs.declared.command.Value.{Value}
use Rattle.script.specs.declared.command.Value.TheVariants.{Number, Head}

-- the number that a value is
abbrev pub number_of : Value → Option ℤ
number_of (Number n) = Some n
number_of (Head _) = None

-- the line head that a value is
abbrev pub head_of : Value → Option LineHead
head_of (Number _) = None
head_of (Head h) = Some h
