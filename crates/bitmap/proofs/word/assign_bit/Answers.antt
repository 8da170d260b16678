use Rattle.std.proofs.lemmas.Nat.{one_shl, or_lt, pow_below}
use Rattle.bitmap.proofs.BitLaws.{set_bit, clear_bit}
use Rattle.bitmap.proofs.word.assign_bit.Goals as goal

pub returns-then-on : goal.returns-then-on
returns-then-on c = record {
  bits = λ j h. rw (one_shl c.args.k 64 c.requires, c.if-on.true) (set_bit c.args.bits c.args.k j);
  within = λ w h fits. rw (one_shl c.args.k 64 c.requires) (or_lt w c.args.bits _ fits (pow_below c.args.k w h));
}

pub returns-else-on-clause-bits : goal.returns-else-on-clause-bits
returns-else-on-clause-bits c j h = rw (one_shl c.args.k 64 c.requires, c.if-on.false) (clear_bit 64 c.args.bits c.args.k j c.requires h)
