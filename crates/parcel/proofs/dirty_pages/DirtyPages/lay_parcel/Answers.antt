use Rattle.std.proofs.Common.{◌≡◌, ◌+◌, ◌*◌, length, ◌∙◌, arith}
use Rattle.parcel.specs.Parcels.{dirty_pages}
use Rattle.parcel.proofs.WrittenPages.{length-parcel, length-bodies, parcel-laid}
use Rattle.parcel.proofs.dirty_pages.DirtyPages.lay_parcel.Goals as goal

pub lay-head-requires : goal.lay-head-requires
lay-head-requires g c =
    let b = g.B.Bitmap.means c.args.self.now.bitmap.now in
    omega (arith, c.requires.room, length-parcel b.page c.args.self.now.memory.now (dirty_pages b c.args.self.now.memory.now))

pub lay_numbers-numbers-requires : goal.lay_numbers-numbers-requires
lay_numbers-numbers-requires g c =
    let b = g.B.Bitmap.means c.args.self.now.bitmap.now in
    omega (arith, c.requires.room, c.lay-head.ensures.end, length-parcel b.page c.args.self.now.memory.now (dirty_pages b c.args.self.now.memory.now))

pub lay_bytes-requires : goal.lay_bytes-requires
lay_bytes-requires g c =
    let b = g.B.Bitmap.means c.args.self.now.bitmap.now in
    let memory = c.args.self.now.memory.now in
    omega (arith, c.requires.room, c.lay-head.ensures.end, c.lay_numbers-numbers.ensures.end, length-bodies b.page memory (dirty_pages b memory), length-parcel b.page memory (dirty_pages b memory))

pub returns : goal.returns
returns g c =
    let b = g.B.Bitmap.means c.args.self.now.bitmap.now in
    let memory = c.args.self.now.memory.now in
    let buf = c.args.buf.now in
    let qs = dirty_pages b memory in
    let at_is : c.lay_numbers-numbers.result ≡ 24 + 8 * length qs = omega (arith, c.lay-head.ensures.end, c.lay_numbers-numbers.ensures.end) in
    let page = c.get.ensures ∙ c.layout-layout.ensures.page in
    c.lay_bytes.ensures ∙ rw (c.lay_numbers-numbers.ensures.after, c.lay-head.ensures.after, c.lay-head.ensures.end, at_is, page, c.requires.count, c.layout-layout.ensures.total) (parcel-laid b.page memory qs buf c.requires.room)
