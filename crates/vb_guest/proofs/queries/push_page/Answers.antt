use Rattle.{std.proofs.Common.arith, vb_guest.proofs.Runs.{page_joined, page_alone, page_first}}
use Rattle.vb_guest.proofs.queries.push_page.Goals.{else-count-gt0-via-then-count-gt0+else-from}
use Rattle.vb_guest.proofs.queries.push_page.Goals.{else-count-gt0-via-else-count-gt0}
use Rattle.vb_guest.proofs.queries.push_page.Goals as goal

pub returns-then-from : goal.returns-then-from
returns-then-from c = λ pages is. page_joined _ pages (omega (
  arith,
  c.if-count-gt0.true,
  c.len-count.ensures,
  c.args.found.now.ok,
)) c.index_mut.ensures.value c.index.ensures
    (omega (arith, c.if-from.true, c.from.ensures, c.from-then-count-gt0.ensures)) is

pub returns-in-Ok : goal.returns-in-Ok
returns-in-Ok c = λ pages is. elim c.else-count-gt0.branch [
  | else-count-gt0-via-then-count-gt0+else-from w ↦
      page_alone c.args.page _ pages (omega (
        arith,
        w.if-count-gt0.true,
        c.len-count.ensures,
        c.args.found.now.ok,
      )) w.index.ensures (λ e. w.if-from.false
      (omega (arith, e, w.from.ensures, w.from-then-count-gt0.ensures))) c.in-Ok.ensures.items is
  | else-count-gt0-via-else-count-gt0 w ↦ page_first c.args.page pages (omega (
    arith,
    w.if-count-gt0.false,
    c.len-count.ensures,
    c.args.found.now.ok,
  )) c.in-Ok.ensures.items is
]
