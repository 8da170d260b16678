use Rattle.std.proofs.Common.{◌≡◌, ◌∙◌, arith}
use Rattle.parcel.proofs.WrittenPages.{head-laid}
use Rattle.parcel.proofs.contents.Contents.lay.Goals as goal

pub returns : goal.returns
returns c =
    let second : c.lay_number-second.result ≡ 8 = omega arith in
    let third : c.lay_number-third.result ≡ 16 = omega arith in
    record {
      end = omega arith;
      after = c.lay_number.ensures.after ∙ rw (c.lay_number-third.ensures.after, c.lay_number-second.ensures.after, third, second) (head-laid c.args.buf.now c.args.self.page_size c.args.self.pages c.args.self.total c.requires);
    }
