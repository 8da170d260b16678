use Rattle.std.proofs.Common.{◌≡◌, ◌-◌, take, ◌∙◌, ap, arith}
use Rattle.byte_valued.specs.Buffers.{has_room, laid}
use Rattle.byte_valued.specs.LittleEndian.{bytes_of}
use Rattle.byte_valued.proofs.NumberBytes.{take-to_le_bytes}
use Rattle.byte_valued.proofs.integer.AnyByteValued.write_to.Goals as goal

pub returns : goal.returns
returns g c =
    let width : c.WIDTH.result - 0 ≡ g.T.Integer.WIDTH = omega (arith, c.WIDTH.ensures) in
    let e : take (c.WIDTH.result - 0) c.to_le_bytes.result ≡ bytes_of g.T.Integer.WIDTH (g.T.Integer.bits_of c.args.self) =
    rw (width, c.to_le_bytes.ensures, ← c.to_bits.ensures.bits) (take-to_le_bytes g.T.Integer.WIDTH c.to_bits.result g.T.Integer.laws.few) in
    record { test = c.lay.ensures.test ∙ ap (λ bs. has_room bs c.args.buf.now) e; after = c.lay.ensures.after ∙ ap (λ bs. laid bs c.args.buf.now) e; holds = c.to_bits.ensures.holds }
