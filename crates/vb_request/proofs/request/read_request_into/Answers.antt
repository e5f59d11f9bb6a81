use Rattle.std.proofs.Common.{◌≡◌, ◌≤◌, ℕ, List, Result, Ok, Err, All, OnOk}
use Rattle.vb_ram.specs.Pages.{Pages}
use Rattle.vb_chain.{specs.declared.fault.ChainFault.ChainFault, specs.declared.pieces.Piece.Piece}
use Rattle.vb_request.{specs.Request.page_request, proofs.RequestPages.request_pages}
use Rattle.vb_request.proofs.request.read_request_into.Goals as goal

-- what a request names, where it isn't refused, isn't reserved
all_above : (r : Result Unit ChainFault) (mem : Pages) (pieces : List Piece) (reserved : ℕ)
    (pages : List ℕ) → OnOk r (page_request mem pieces reserved ≡ Ok pages)
    → OnOk r (All (λ page. reserved ≤ page) pages)
all_above (Ok done) mem pieces reserved pages is = (request_pages mem pieces reserved pages is).above
all_above (Err fault) mem pieces reserved pages is = is

pub returns-clause-above : goal.returns-clause-above
returns-clause-above g c = all_above c.list_request.result (g.G.GuestBytes.mem c.args.ram.now)
    c.args.pieces.now c.args.reserved c.list_request.new.self c.list_request.ensures.pages
