use Rattle.parcel.proofs.WrittenPages.{page_part}
use Rattle.parcel.proofs.dirty_pages.DirtyPages.bytes.Goals as goal

pub returns : goal.returns
returns g c =
    page_part c.args.self.now.memory.now _ c.args.page c.start-start.result c.size.result c.layout-layout.result.page_size.value c.layout-layout.result.total c.layout-layout.ensures.page c.layout-layout.ensures.total c.start-start.ensures c.size.ensures
