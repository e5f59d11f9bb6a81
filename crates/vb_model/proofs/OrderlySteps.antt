-- A call that an honest guest answers leaves it in order.
use Rattle.std.proofs.Common.{Bool, List, [], arith, cond, false, inl, inr, length, refl, subst}
use Rattle.std.proofs.Common.{sym, true, ℕ, ◌+◌, ◌-◌, ◌<◌, ◌∙◌, ◌∷◌, ◌≡◌, ◌≢◌, ◌≤◌, ◌⊎◌}
use Rattle.std.proofs.lemmas.{Bool.{and_parts, cases_lt, true_from_ne_false}, List.get_or_past}
use Rattle.std.proofs.lemmas.List.{length-map, FromFn.get_or-map-range_with_len}
use Rattle.std.{proofs.lemmas.{List.FromFn.length-range_with_len, Nat.pow_pos}, specs.Prelude.None}
use Rattle.{std.specs.Prelude.{Option, Some, nat_lt, slice_get}, vb_model.specs.Life.Negotiates}
use Rattle.vb_model.proofs.{Deeds.Has_served, Serving.serving_keeps}
use Rattle.vb_model.proofs.{Cases.{supplied, wholly_free_pages}, Deeds.{Aimed, Allocated, Buffered}}
use Rattle.vb_model.proofs.Deeds.{Deed, Freed, Has_finished, Has_posted, Has_reaped, Has_scribbled}
use Rattle.vb_model.proofs.Deeds.{Has_swept, Has_taken, Has_written, Initialised, IsPosting, Stayed}
use Rattle.vb_model.proofs.{Deeds.{Visited, Was_reset, deed, leaves}, GuestSteps.report_reporting}
use Rattle.vb_virtio.proofs.Ranges.{outside-range}
use Rattle.vb_virtio.proofs.Tables.{length-each_from}
use Rattle.vb_virtio.specs.Layout.{reserved_pages}
use Rattle.vb_virtio.specs.declared.refusals.Refusal.{Refusal}
use Rattle.vb_virtio.specs.Status.{feature_refusal}
use Rattle.vb_virtio.specs.Limits.{max_order}
use Rattle.vb_virtio.specs.Queues.{Deflating, Inflating, Kind, Reporting_free, Request}
use Rattle.vb_virtio.specs.Tests.{is_in}
use Rattle.vb_model.proofs.Deeds.{most}
use Rattle.vb_model.proofs.InOrder.{orderly_work}
use Rattle.vb_model.proofs.PageSteps.{after_take}
use Rattle.vb_model.proofs.GuestSteps.{deflate_there, held_used, inflate_giving, length-reaped}
use Rattle.vb_model.proofs.{GuestSteps.{not_reserved, placed-get}, LifeSteps.place_of-reset}
use Rattle.vb_model.proofs.InOrder.{orderly_finish, orderly_posting, orderly_reap, orderly_take}
use Rattle.vb_model.specs.Consistent.{IsConsistent}
use Rattle.vb_model.specs.Life.{lacking}
use Rattle.vb_model.specs.{Device.{settled, used, visited}, Driver.{after_posting, reaped}}
use Rattle.vb_model.specs.{Driver.{with_block, without_block}, Guest.{Config, Guest, fresh}}
use Rattle.vb_model.specs.Guest.{requests, tells_host, with_requests}
use Rattle.vb_model.specs.Life.{after_reset}
use Rattle.vb_model.specs.declared.replies.Reply.{Reply}
use Rattle.vb_model.specs.declared.places.Place.TheVariants.{Reserved, Used}
use Rattle.vb_model.specs.Orderly.{AreBlocks, AreOrderly, IsBlock, IsOrderly}
use Rattle.vb_model.specs.Pages.{Block, is_aligned, is_free, is_giving, is_reporting, is_reserved}
use Rattle.vb_model.specs.Pages.{is_same_block, is_used, is_wholly_free, pages_of, place_of, placed}
use Rattle.vb_model.specs.Pages.{size}
use Rattle.vb_model.specs.Requests.{Requests, names, place_posted, places_reaped}
use Rattle.vb_model.specs.Step.{HonestStep}
use Rattle.vb_model.specs.declared.calls.Call.{Call}
use Rattle.vb_model.specs.declared.calls.Claim.{Claim}
use Rattle.vb_model.specs.declared.places.Place.{Place, TheVariants.{Free as FreePlace, Lent}}

-- ---- places

abbrev Unreserved : ℕ → ℕ → List Place → Type 0
Unreserved size pages places = (page : ℕ) → page < pages
    → is_reserved (place_of places page) ≡ nat_lt page (reserved_pages size)

-- pages that aren't reserved went to a place that isn't
moved : (size n : ℕ) (pages : List ℕ) (place : Place) (places : List Place)
    → Unreserved size n places → is_reserved place ≡ false → ((page : ℕ) → is_in page pages ≡ true
    → place_of places page ≢ Reserved) → Unreserved size n (placed pages place places)
moved size n pages place places h free ok page l = grind (arith, placed-get)

-- the pages of a request that was reaped
moved_back : (told : Bool) (kind : Kind) (size n : ℕ) (pages : List ℕ) (places : List Place)
    → Unreserved size n places
    → ((page : ℕ) → is_in page pages ≡ true → place_of places page ≢ Reserved)
    → Unreserved size n (places_reaped told kind pages places)
moved_back told Inflating size n pages places h ok = moved size n pages Lent places h refl ok
moved_back true Deflating size n pages places h ok = moved size n pages FreePlace places h refl ok
moved_back false Deflating size n pages places h ok = h
moved_back told Reporting_free size n pages places h ok =
    moved size n pages FreePlace places h refl ok

posted_unreserved : (told : Bool) (kind : Kind) → is_reserved (place_posted told kind) ≡ false
posted_unreserved told kind = grind arith

unreserved_left : (kind : Kind) (place : Place) → leaves kind place ≡ true → place ≢ Reserved
unreserved_left kind place k e = grind arith

length-placed : (pages : List ℕ) (place : Place) (places : List Place)
    → length (placed pages place places) ≡ length places
length-placed pages place places = length-each_from 0 _ places

-- ---- held blocks

-- a block whose pages are all free
free_block : (pages : ℕ) (places : List Place) (b : Block) → length places ≡ pages
    → b.order ≤ max_order → is_wholly_free places b ≡ true → IsBlock pages b
free_block pages places b sized small whole = record {
  order = small;
  aligned = (and_parts (is_aligned b) _ whole).0;
  inside = inside (cases_lt pages (b.start + size b));
} where
  positive : 0 < size b
  positive = pow_pos b.order

  last : ℕ
  last = b.start + size b - 1

  past : pages < b.start + size b → ⊥
  past lt = not_reserved (place_of places last) is_free refl (wholly_free_pages places b last whole
      (true_from_ne_false (is_in last (pages_of b)) (λ out. outside-range last b.start (size b) out
      (omega (arith, positive)) (omega (arith, positive)))))
      (get_or_past places last Reserved (omega (arith, lt, positive, sized)))

  inside : (pages < b.start + size b) ⊎ (b.start + size b ≤ pages) → b.start + size b ≤ pages
  inside (inl lt) = absurd (past lt)
  inside (inr le) = le

blocks_with : (pages : ℕ) (b : Block) (held : List Block) → IsBlock pages b → AreBlocks pages held
    → AreBlocks pages (with_block b held)
blocks_with pages b [] is are = (is, tt)
blocks_with pages b (x ∷ held) is are =
    step (nat_lt b.start x.start) (blocks_with pages b held is are.1)
  where
    step : (v : Bool) → AreBlocks pages (with_block b held)
        → AreBlocks pages (cond v (b ∷ x ∷ held) (x ∷ with_block b held))
    step true later = (is, are)
    step false later = (are.0, later)

blocks_without : (pages : ℕ) (b : Block) (held : List Block) → AreBlocks pages held
    → AreBlocks pages (without_block b held)
blocks_without pages b [] are = tt
blocks_without pages b (x ∷ held) are = step (is_same_block x b) (blocks_without pages b held are.1)
  where
    step : (v : Bool) → AreBlocks pages (without_block b held)
        → AreBlocks pages (cond v held (x ∷ without_block b held))
    step true later = are.1
    step false later = (are.0, later)

-- ---- the kinds' requests change

with_kind : (kind : Kind) (g : Guest) (rs : Requests) (places : List Place) → IsOrderly g
    → AreOrderly (most kind g) rs → length places ≡ g.config.pages
    → Unreserved g.config.queue_size g.config.pages places
    → IsOrderly (record (with_requests kind rs g) { places = places })
with_kind kind g rs places h o l u = grind (arith, h)

orders : (kind : Kind) (g : Guest) → IsOrderly g → AreOrderly (most kind g) (requests kind g)
orders Inflating g h = h.inflating
orders Deflating g h = h.deflating
orders Reporting_free g h = h.reporting

kept_posting : (kind : Kind) (call : Call) (head : ℕ) (pages : List ℕ) (g : Guest) → IsOrderly g
    → IsPosting call kind head pages g → IsOrderly (after_posting kind head pages g)
kept_posting kind call head pages g h p =
    let place : Place = place_posted (tells_host g) kind in
    with_kind kind g _ (placed pages place g.places) h
    (orderly_posting (most kind g) (requests kind g) head pages (orders kind g h) p.least p.room
    p.distinct) (length-placed pages place g.places ∙ h.tabled)
    (moved g.config.queue_size g.config.pages pages place g.places h.unreserved
    (posted_unreserved (tells_host g) kind) (λ page k. unreserved_left kind _ (p.there page k)))

kept_take : (kind : Kind) (g : Guest) (r : Request) (rest : List Request) → IsOrderly g
    → (requests kind g).posted ≡ r ∷ rest
    → IsOrderly (with_requests kind (after_take r rest (requests kind g)) g)
kept_take kind g r rest h e = grind (
  arith,
  orderly_take (most kind g) r rest (requests kind g) e (orders kind g h),
  h,
)

kept_work : (kind : Kind) (page : ℕ) (g : Guest) → IsOrderly g → IsOrderly (visited kind page g)
kept_work kind page g h = grind (
  arith,
  orderly_work _ g.inflate h.inflating,
  orderly_work _ g.deflate h.deflating,
  orderly_work _ g.report h.reporting,
)

pub kept_finish : (kind : Kind) (i : ℕ) (r : Request) (g : Guest) → IsOrderly g
    → slice_get (requests kind g).taken i ≡ Some r
    → IsOrderly (settled kind r.pages (used kind i r g))
kept_finish kind i r g h e =
    grind (arith, orderly_finish (most kind g) i r (requests kind g) e (orders kind g h), h)

named_there : (kind : Kind) (g : Guest) (page : ℕ) (r : Request) (rest : List Request)
    → IsConsistent g → (requests kind g).done ≡ r ∷ rest → names page r ≡ true
    → place_of g.places page ≢ Reserved
named_there Inflating g page r rest c e k =
    not_reserved _ is_giving refl (inflate_giving g page r rest c e k)
named_there Deflating g page r rest c e k = deflate_there g page r rest c e k
named_there Reporting_free g page r rest c e k =
    not_reserved _ is_reporting refl (report_reporting g page r rest c e k)

pub kept_reap : (kind : Kind) (g : Guest) (r : Request) (rest : List Request) → IsConsistent g
    → IsOrderly g → (requests kind g).done ≡ r ∷ rest → IsOrderly (reaped kind r rest g)
kept_reap kind g r rest c h e =
    with_kind kind g _ (places_reaped (tells_host g) kind r.pages g.places) h
    (orderly_reap (most kind g) r rest (requests kind g) e (orders kind g h))
    (length-reaped (tells_host g) kind r.pages g.places ∙ h.tabled)
    (moved_back (tells_host g) kind g.config.queue_size g.config.pages r.pages g.places h.unreserved
    (λ page k. named_there kind g page r rest c e k))

kept_reset : (g : Guest) → IsOrderly g → IsOrderly (after_reset g)
kept_reset g h = grind (arith, length-map, place_of-reset)

-- pages of a block move
with_blocks : (g : Guest) (b : Block) (place : Place) (held : List Block) → IsOrderly g
    → AreBlocks g.config.pages held → is_reserved place ≡ false
    → ((page : ℕ) → is_in page (pages_of b) ≡ true → place_of g.places page ≢ Reserved)
    → IsOrderly (record g { places = placed (pages_of b) place g.places; held = held })
with_blocks g b place held h are free there = record {
  inflating = h.inflating;
  deflating = h.deflating;
  reporting = h.reporting;
  state = h.state;
  tabled = length-placed (pages_of b) place g.places ∙ h.tabled;
  unreserved = moved g.config.queue_size g.config.pages (pages_of b) place g.places h.unreserved
      free there;
  blocks = are;
  agreed = h.agreed;
}

negotiates_order : (o : Option Refusal) (wanted : ℕ) (g : Guest) (reply : Reply) (new : Guest)
    → feature_refusal wanted ≡ o → IsOrderly g → Negotiates o wanted g reply new → IsOrderly new
negotiates_order None wanted g reply new e h s = grind (arith, h)
negotiates_order (Some refusal) wanted g reply new e h s = grind (arith, h)

-- ---- a call

order : (call : Call) (g : Guest) (claims : List Claim) (reply : Reply) (new : Guest)
    → IsConsistent g → IsOrderly g → Deed call g claims reply new → new.rogue ≡ false
    → IsOrderly new
order call g claims reply new c h (Stayed why e) honest = subst IsOrderly (sym e) h
order call g claims reply new c h (Aimed n is told e) honest = subst IsOrderly (sym e) h
order call g claims reply new c h (Was_reset told e) honest =
    subst IsOrderly (sym e) (kept_reset g h)
order call g claims reply new c h (Allocated b small free told e) honest =
    subst IsOrderly (sym e) (with_blocks g b Used (with_block b g.held) h
    (blocks_with g.config.pages b g.held
    (free_block g.config.pages g.places b h.tabled small free) h.blocks) refl
    (λ page k. not_reserved _ is_free refl (wholly_free_pages g.places b page free k)))
order call g claims reply new c h (Freed b held told e) honest =
    subst IsOrderly (sym e) (with_blocks g b FreePlace (without_block b g.held) h
    (blocks_without g.config.pages b g.held h.blocks) refl
    (λ page k. not_reserved _ is_used refl (held_used g b page c held k)))
order call g claims reply new c h (Has_posted kind head pages p told e) honest =
    subst IsOrderly (sym e) (kept_posting kind call head pages g h p)
order call g claims reply new c h (Has_reaped kind r rest is done told e) honest =
    subst IsOrderly (sym e) (kept_reap kind g r rest c h done)
order call g claims reply new c h (Has_taken kind r rest posted told e) honest =
    subst IsOrderly (sym e) (kept_take kind g r rest h posted)
order call g claims reply new c h (Buffered b last has told e) honest = subst IsOrderly (sym e) h
order call g claims reply new c h (Visited kind page named other told e) honest =
    subst IsOrderly (sym e) (kept_work kind page g h)
order call g claims reply new c h (Has_finished kind i r is told e) honest =
    subst IsOrderly (sym e) (kept_finish kind i r g h is)
order call g claims reply new c h (Has_served kind chains s told) honest = serving_keeps kind
    IsOrderly (λ x r rest posted o. kept_take kind x r rest o posted)
    (λ x r is o. kept_finish kind 0 r x o is) (requests kind g).posted 0 g reply new refl s h
order call g claims reply new c h (Has_swept page flag tells told e) honest =
    subst IsOrderly (sym e) h
order call g claims reply new c h (Initialised wanted is passed n) honest =
    negotiates_order (feature_refusal wanted) wanted
    (supplied (lacking g) claims g) reply new refl h n
order call g claims reply new c h (Has_written page offset bytes is passed are none w) honest =
    subst IsOrderly (sym w.1) h
order call g claims reply new c h (Has_scribbled page offset bytes is passed s) honest =
    absurd (let rogue : new.rogue ≡ true = s.state.still in cc)

pub honest_order : (g : Guest) (call : Call) (claims : List Claim) (reply : Reply) (new : Guest)
    → IsConsistent g → IsOrderly g → HonestStep g call claims reply new → new.rogue ≡ false
    → IsOrderly new
honest_order g call claims reply new c h s honest =
    order call g claims reply new c h (deed g call claims reply new s) honest

-- ---- a new guest

pub fresh_order : (config : Config) (target : ℕ) → IsOrderly (fresh config target)
fresh_order config target =
    grind (arith, length-map, length-range_with_len, get_or-map-range_with_len)
