use Rattle.std.proofs.Common.{arith}
use Rattle.vb_monitor.proofs.{CopyLemmas.few_pieces, RoomLemmas.few_reported}
use Rattle.vb_monitor.proofs.free_pages.name_report.Goals as goal

pub returns-in-Ok-clause-fits : goal.returns-in-Ok-clause-fits
returns-in-Ok-clause-fits c =
    let chain = c.first_pieces-chain.result.now in
    c.tell_pages.ensures.fits
    (few_reported _ chain _ _ _ _ c.tells_pages-is_told.result c.in-Ok.named _
    (few_pieces c.args.place.count
    c.args.room.now.pieces chain c.first_pieces-chain.ensures (omega arith)) c.in-Ok.ensures
    c.told_if-told.ensures)
