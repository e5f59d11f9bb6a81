use Rattle.std.proofs.Common.{ℕ, List, sym, ◌∙◌, ap}
use Rattle.vb_model.specs.Pages.{Block, is_free, place_of, maximal_blocks, reported}
use Rattle.vb_model.proofs.Blocks.{maximal_agree}
use Rattle.vb_pages.specs.PageState.{page_count, is_free_page}
use Rattle.vb_report.proofs.laws.reports_name_free_places.Goals as goal

pub returns : goal.returns
returns c s places long same from room = ap (λ (bs : List Block). reported room from bs)
    (maximal_agree (page_count s) (is_free_page s) (λ page. is_free (place_of places page)) same
    ∙ ap (λ (n : ℕ). maximal_blocks n (λ page. is_free (place_of places page))) (sym long))
