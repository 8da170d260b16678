use Rattle.std.proofs.Common.{ℕ, ◌+◌, List, length, sym, ap, ◌∙◌}
use Rattle.std.proofs.lemmas.Bool.{cond-false, le-ltb}
use Rattle.volatile_memory.specs.Faults.Answer.{gives}
use Rattle.volatile_memory.specs.Spans.{span}
use Rattle.volatile_memory.proofs.CallLaws.{found_in_memory}
use Rattle.volatile_memory.proofs.LaidBytes.{part_of}
use Rattle.volatile_memory.proofs.volatile_slice.VolatileSlice.ptr_guard.Goals as goal

pub returns : goal.returns
returns c =
    let v = c.args.self.now in
    let m = c.args.memory in
    let held = found_in_memory (span v) (length m.now) c.in_ok-check_memory.ensures in
    ap (λ (bs : List ℕ). gives (bs, (m.ref_ptr.0, v.start + m.ref_ptr.1))) (part_of m.now v.start v.size) ∙ sym (cond-false _ _ _ (le-ltb (length m.now) (v.start + v.size) held))
