use Rattle.std.proofs.Common.{◌≡◌, ◌∙◌, ℕ, List, Result, Ok, Err, OnOk, IfErr, sym, ap, subst}
use Rattle.std.proofs.Common.{length}
use Rattle.vb_ram.specs.Pages.{Pages}
use Rattle.vb_chain.{specs.declared.fault.ChainFault.ChainFault, specs.declared.pieces.Piece.Piece}
use Rattle.vb_request.specs.Request.{numbers_of, pages_of_numbers, page_request, bytes_of}
use Rattle.vb_request.{specs.Request.request_length, proofs.Bytes.{refused_request, read_numbers}}
use Rattle.vb_request.proofs.request.page_request.Goals as goal

-- a request of a right length says what the numbers of its bytes do
as_listed : (mem : Pages) (pieces : List Piece) (reserved count len : ℕ) (bytes : List ℕ)
    → request_length pieces ≡ Ok len → count ≡ length mem → bytes ≡ bytes_of mem pieces
    → page_request mem pieces reserved ≡ pages_of_numbers reserved count (numbers_of bytes)
as_listed mem pieces reserved count len bytes right all read = read_numbers mem pieces reserved
    len right ∙ (ap (λ (n : ℕ). pages_of_numbers reserved n (numbers_of (bytes_of mem pieces)))
    (sym all) ∙ ap (λ (bs : List ℕ). pages_of_numbers reserved count (numbers_of bs)) (sym read))

pub returns-in-Err-clause-fault : goal.returns-in-Err-clause-fault
returns-in-Err-clause-fault g c = refused_request (g.G.GuestBytes.mem c.args.ram.now)
    c.args.pieces.now c.args.reserved c.in-Err.fault (sym c.in-Err.ensures)

pub returns-in-Ok-clause-pages : goal.returns-in-Ok-clause-pages
returns-in-Ok-clause-pages g c = subst (λ (v : Result (List ℕ) ChainFault). OnOk c.list_pages.result
    (v ≡ Ok c.list_pages.new.pages.items))
    (sym (as_listed (g.G.GuestBytes.mem c.args.ram.now) c.args.pieces.now c.args.reserved
    c.pages-count.result _ c.as_slice.result.now (sym c.in-Ok.ensures) c.pages-count.ensures
    (c.as_slice.ensures.bytes ∙ c.gather.ensures))) c.list_pages.ensures.pages

pub returns-in-Ok-clause-fault : goal.returns-in-Ok-clause-fault
returns-in-Ok-clause-fault g c =
    subst (λ (v : Result (List ℕ) ChainFault). IfErr c.list_pages.result (λ fault. v ≡ Err fault))
    (sym (as_listed (g.G.GuestBytes.mem c.args.ram.now) c.args.pieces.now c.args.reserved
    c.pages-count.result _ c.as_slice.result.now (sym c.in-Ok.ensures) c.pages-count.ensures
    (c.as_slice.ensures.bytes ∙ c.gather.ensures))) c.list_pages.ensures.fault
