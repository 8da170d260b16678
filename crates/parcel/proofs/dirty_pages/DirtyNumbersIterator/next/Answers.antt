use Rattle.std.proofs.Common.{rules, ◌-◌, length, ap, arith}
use Rattle.bitmap.specs.Pages.{dirty}
use Rattle.parcel.proofs.DirtyList.{found_some, found_none}
use Rattle.parcel.proofs.dirty_pages.DirtyNumbersIterator.next.Goals as goal

pub overflow_add-self : goal.overflow_add-self
overflow_add-self g c =
    let s = c.args.self.now in
    omega (arith, (found_some (dirty (g.B.Bitmap.means s.bitmap.now)) s.next s.end c.in_ok-page.page c.in_ok-page.ensures).0)

pub returns-clause-steps : goal.returns-clause-steps
returns-clause-steps g c =
    let s = c.args.self.now in
    (found_some (dirty (g.B.Bitmap.means s.bitmap.now)) s.next s.end c.in_ok-page.page c.in_ok-page.ensures).1

pub returns-clause-goes : goal.returns-clause-goes
returns-clause-goes g c =
    let s = c.args.self.now in
    let left = ap length (found_some (dirty (g.B.Bitmap.means s.bitmap.now)) s.next s.end c.in_ok-page.page c.in_ok-page.ensures).1 in
    search rules

pub returns-in_err-page-clause-steps : goal.returns-in_err-page-clause-steps
returns-in_err-page-clause-steps g c =
    let s = c.args.self.now in
    let none = found_none (dirty (g.B.Bitmap.means s.bitmap.now)) s.next (s.end - s.next) c.in_err-page.ensures in
    rw c.from_residual.ensures (none, none)
