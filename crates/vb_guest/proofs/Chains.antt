-- A posted request, as its device finds it.
use Rattle.std.specs.Prelude.{◌≡◌, ℕ, ◌*◌, ◌<◌, ◌≤◌, List, [], ◌∷◌, All, length, Ok, false, refl}
use Rattle.vb_virtio.specs.Layout.{buffer_offset, reserved_pages, ring_page, buffers_page}
use Rattle.vb_virtio.specs.Layout.{buffer_page}
use Rattle.vb_virtio.specs.Queues.{Request}
use Rattle.std.proofs.Common.{sym, subst, arith}
use Rattle.vb_chain.proofs.ChainLaws.{single_chain, no_fault}
use Rattle.{vb_ram.specs.Pages.Pages, vb_chain.specs.declared.descriptor.Descriptor.Descriptor}
use Rattle.vb_chain.specs.{Table.descriptor_at, Rules.piece_of, Chain.ChainGives}
use Rattle.vb_request.{specs.Request.page_request, proofs.OneRequest.one_request}
use Rattle.{vb_driver.specs.Coding.{IsCoded, buffer_of}, vb_guest.specs.Line.IsRequest}

-- its chain is one readable buffer
pub coded_chain : {mem : Pages} (q : ℕ) {size n : ℕ} {sent : List (List ℕ)} {r : Request}
    → buffers_page q ≤ 8 → 64 ≤ n → length mem ≡ n
    → IsRequest size n sent r → IsCoded mem (ring_page size q) (buffers_page q) r.head r.pages
    → ChainGives (descriptor_at mem (ring_page size q)) size
    (4096 * length mem) r.head (piece_of (buffer_of (buffers_page q) r.head (length r.pages)) ∷ [])
coded_chain {mem} q {size} {r} low large len is code =
    let d : Descriptor = buffer_of (buffers_page q) r.head (length r.pages) in
    single_chain (descriptor_at mem (ring_page size q)) size
    (4096 * length mem) r.head d is.inside code.descriptor refl (no_fault size
    (4096 * length mem) false 0 d refl (omega (arith, is.few, is.pages.few)) (λ e. cc) (λ e. cc))

-- it is a request for the pages that it names
pub coded_pages : {mem : Pages} (q : ℕ) {size n : ℕ} {sent : List (List ℕ)} {r : Request}
    → length mem ≡ n → IsRequest size n sent r
    → IsCoded mem (ring_page size q) (buffers_page q) r.head r.pages → page_request mem (piece_of
    (buffer_of (buffers_page q) r.head (length r.pages)) ∷ []) (reserved_pages size) ≡ Ok r.pages
coded_pages {mem} q {size} {r} len is code =
    one_request mem (piece_of (buffer_of (buffers_page q) r.head (length r.pages))) (buffer_page
    (buffers_page q) r.head) (buffer_offset r.head) (reserved_pages size) r.pages (record {
      addr = refl;
      len = refl;
      readable = refl;
      inside = omega (arith, is.pages.few);
      numbers = code.names.each;
      some = is.pages.some;
      few = is.pages.few;
    }) (assumption (subst (λ k. All (λ page. page < k) r.pages) (sym len) is.pages.below))
