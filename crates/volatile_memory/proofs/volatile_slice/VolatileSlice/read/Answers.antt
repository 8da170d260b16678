use Rattle.std.proofs.Common.{◌+◌, ◌-◌, length, ◌∙◌, arith, rules}
use Rattle.volatile_memory.specs.Spans.{span}
use Rattle.volatile_memory.proofs.CallLaws.{moved_fits, fetched_refused, fetched_some, fetched_nothing}
use Rattle.volatile_memory.proofs.LaidBytes.{overlaid_put, part_of}
use Rattle.volatile_memory.proofs.volatile_slice.VolatileSlice.read.Goals as goal

pub returns-in_err-k-clause-after : goal.returns-in_err-k-clause-after
returns-in_err-k-clause-after c = fetched_refused (span c.args.self.now) c.args.memory.now c.args.buf.now c.args.addr _ c.in_err-k.ensures

pub slice_bounds-copy_from_slice-end-then-k-gt0 : goal.slice_bounds-copy_from_slice-end-then-k-gt0
slice_bounds-copy_from_slice-end-then-k-gt0 c =
    let fits = moved_fits (span c.args.self.now) (length c.args.memory.now) (length c.args.buf.now) c.args.addr c.in_ok-k.k c.in_ok-k.ensures c.if-k-gt0.true in
    omega arith

pub returns-then-k-gt0-clause-after : goal.returns-then-k-gt0-clause-after
returns-then-k-gt0-clause-after c =
    let v = span c.args.self.now in
    let m = c.args.memory.now in
    let buf = c.args.buf.now in
    let k = c.in_ok-k.k in
    let bytes = c.copy_from_slice.ensures.after ∙ part_of m (v.start + c.args.addr) k in
    rw (fetched_some v m buf c.args.addr k c.in_ok-k.ensures, ← bytes) (overlaid_put buf _ 0 (k - 0) (search rules))

pub returns-else-k-gt0-clause-after : goal.returns-else-k-gt0-clause-after
returns-else-k-gt0-clause-after c = fetched_nothing (span c.args.self.now) c.args.memory.now c.args.buf.now c.args.addr c.in_ok-k.k c.in_ok-k.ensures c.if-k-gt0.false
