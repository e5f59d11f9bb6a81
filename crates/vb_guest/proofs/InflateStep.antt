-- A guest's inflate is a step of the definitions.
use Rattle.std.proofs.{Common.{sym, ◌∙◌, ap, subst, arith, inr}, lemmas.List.length-append}
use Rattle.std.specs.Prelude.{◌≡◌, ℕ, ◌<◌, [], ◌++◌, length, Result, Ok, Err, Some, None, refl}
use Rattle.vb_virtio.proofs.Shapes.{reserved_least}
use Rattle.vb_virtio.specs.Layout.{buffer_page}
use Rattle.vb_virtio.specs.FirstRefusal.{first_refusal}
use Rattle.vb_virtio.specs.Queues.{Inflating}
use Rattle.vb_virtio.specs.declared.refusals.Refusal.{Refusal}
use Rattle.vb_virtio.specs.declared.refusals.Refusal.TheVariants.{NotReady}
use Rattle.vb_model.proofs.OrderlySteps.{honest_order}
use Rattle.vb_model.specs.Driver.{stranded_first, after_posting}
use Rattle.vb_model.specs.Guest.{Guest}
use Rattle.vb_model.specs.Refusals.{refusal_of, inflate_count, room}
use Rattle.vb_model.specs.Requests.{outstanding}
use Rattle.vb_model.specs.declared.calls.Call.TheVariants.{Inflate}
use Rattle.vb_model.specs.declared.replies.Reply.TheVariants.{Posted}
use Rattle.{vb_ram.specs.{Pages.Pages, Part.Part}, vb_ring.specs.Ends.outstanding as outstanding_in}
use Rattle.vb_driver.specs.Answers.{inflate_causes, inflate_count as driver_count}
use Rattle.vb_driver.specs.{Calls.{Offers, InflatesBy}, State.{FreePages, RequestSide, DriverState}}
use Rattle.vb_driver.specs.{State.IsDriver, declared.answers.Posted.Posted as PostedRequest}
use Rattle.vb_guest.proofs.{Closing.{honest_performed, steps_alone}, DriverWords.Sides}
use Rattle.vb_guest.proofs.{DriverWords.{driver_of, in_words}, Offered.{asked_as, last_sound}}
use Rattle.vb_guest.proofs.{Offered.inflate_requested, PagesKept.pages_same, Posting.line_posted}
use Rattle.vb_guest.proofs.{Posting.{least_head, outstanding_are}, RunApart.{sizes_of, ring_of}}
use Rattle.vb_guest.proofs.{RunApart.{buffer_clear, post_leaves, post_same}, Running.others_posted}
use Rattle.vb_guest.proofs.SameRefusals.{IsIdleStatus, refused_alike, runs_where}
use Rattle.vb_guest.specs.{Replies.posted_reply, Stands.{Honest, Ties, IsRunning}, Steps.StepsAlone}

-- driver and definitions refuse alike
inflate_idle : (d : DriverState) (p : Part) (g : Guest) (n : ℕ) → p.status ≡ g.status
    → IsIdleStatus g.status → (first_refusal (inflate_causes d p n) ≡ Some NotReady)
    × (refusal_of g (Inflate n) ≡ Some NotReady)
inflate_idle d p g n same down = grind arith

inflate_same : (g : Guest) (areas : FreePages) (sides : Sides) (p : Part) (n : ℕ)
    → p.status ≡ g.status → p.target ≡ g.target → outstanding_in sides.inflate.ring
    ≡ outstanding g.inflate → outstanding_in sides.deflate.ring ≡ outstanding g.deflate
    → first_refusal (inflate_causes (driver_of g areas sides) p n) ≡ refusal_of g (Inflate n)
inflate_same g areas sides p n status target inflates deflates = grind arith

inflate_offered : {m1 m2 : Pages} {p1 p2 : Part} {g : Guest} (areas : FreePages) (sides : Sides)
    {d2 : DriverState} {n : ℕ} {posted : PostedRequest} → IsDriver (driver_of g areas sides)
    → Offers m1 m2 p1 p2 (driver_of g areas sides) d2 (inflate_count g n) posted
    → Honest m1 p1 (driver_of g areas sides) g → IsRunning m1 p1 (driver_of g areas sides) g
    → refusal_of g (Inflate n) ≡ None → 0 < inflate_count g n → outstanding g.inflate < room g
    → StepsAlone (Honest m2 p2 d2) g (Inflate n) (Posted posted.head posted.pages)
inflate_offered
    {m1} {m2} {p1} {p2} {g} areas sides {d2} {n} {posted} driver did stands run free some fewer =
    let ties = stands.ties in let pages = stranded_first g n ++ did.others in
    let single = driver.inflate.requests in
    let least = least_head m1 0 p1.inflate run.inflate.ring single did.posts.lowest in
    let new : Guest = after_posting Inflating posted.head pages g in
    let reply = ap (λ (k : ℕ). Posted posted.head k) did.pages in
    let step = honest_performed g (Inflate n) [] (Posted posted.head posted.pages) new free
    (refl, (did.others, did.free, did.distinct, did.enough, (posted.head, least, reply, refl))) in
    let orderly = honest_order g (Inflate n) [] (Posted posted.head posted.pages) new
    stands.consistent stands.orderly step ties.parts.guest.honest in
    let once = (last_sound g.inflate.posted orderly.inflating.posted).distinct in
    let count : length pages ≡ inflate_count g n =
    length-append (stranded_first g n) did.others ∙ did.enough in
    let asked = inflate_requested g n did.others stands.orderly did.free once
    (omega (arith, count, some)) (omega (arith, count)) in
    let line = line_posted 0 p1.inflate g.inflate single (asked_as g run.inflate_size asked)
    run.inflate did.posts in
    let size = g.config.queue_size in let rest = did.posts.rest in
    let buffer : ℕ = buffer_page 4 posted.head in
    let small : buffer < 8 = omega (arith, did.posts.small) in
    let ring = ring_of 0 sides.inflate.ring run.inflate.ring.sized run.inflate.ring.layout
    run.inflate_size in
    let leaves = post_leaves (sizes_of run) ring
    (buffer_clear size 0 buffer (omega arith) (omega (arith, small))) rest.others in
    let still = others_posted run leaves rest.backing (λ ne. omega (arith, small))
    (λ ne. absurd (ne refl)) (λ ne page from to. omega (arith, from, small)) in
    let after : DriverState = driver_of new d2.areas (record sides { inflate = d2.inflate }) in
    let sized = ap (λ (s : RequestSide). s.ring.size) did.posts.state ∙ run.inflate_size in
    let there : Ties m2 p1 after new = record {
      parts = assumption;
      pages = pages_same (post_same buffer ring (omega
          (arith, small, reserved_least size)) rest.count rest.backing rest.others) ties.pages;
      queues = inr (assumption (still.deflate refl, still.statistics refl, still.report refl));
    } in
    steps_alone stands step (subst (λ d. Ties m2 p2 d new) (sym did.state)
    (subst (λ p. Ties m2 p after new) (sym did.part) there)) refl

-- an inflate that isn't refused has room, and pages
room_left : (g : Guest) (n : ℕ) → refusal_of g (Inflate n) ≡ None
    → (outstanding g.inflate < room g) × (0 < inflate_count g n)
room_left g n free = grind arith

by_result : {m1 m2 : Pages} {p1 p2 : Part} {g : Guest} (areas : FreePages) (sides : Sides)
    {d2 : DriverState} {n : ℕ} (result : Result PostedRequest Refusal) → InflatesBy m1 m2 p1 p2
    (driver_of g areas sides) d2 n result → Honest m1 p1 (driver_of g areas sides) g
    → first_refusal (inflate_causes (driver_of g areas sides) p1 n) ≡ refusal_of g (Inflate n)
    → StepsAlone (Honest m2 p2 d2) g (Inflate n) (posted_reply result)
by_result areas sides (Err why) did stands same = grind arith
by_result {m1} {m2} {p1} {p2} {g} areas sides {d2} {n} (Ok posted) did stands same =
    let free : refusal_of g (Inflate n) ≡ None = sym (did.refusal ∙ same) in
    let left = room_left g n free in
    let run = runs_where (Inflate n) _ stands.ties.queues
    (inflate_idle (driver_of g areas sides) p1 g n stands.ties.parts.device.status) free in
    let O : ℕ → Type 0 = λ t. Offers m1 m2 p1 p2 (driver_of g areas sides) d2
    (driver_count (driver_of g areas sides) t n) posted in
    inflate_offered areas sides did.driver
    (subst O stands.ties.parts.device.target did.offers) stands run free left.1 left.0

pub inflate_step : {m1 m2 : Pages} {p1 p2 : Part} {d1 d2 : DriverState} {g : Guest}
    {n : ℕ} {result : Result PostedRequest Refusal} → InflatesBy m1 m2 p1 p2 d1 d2 n result
    → Honest m1 p1 d1 g → StepsAlone (Honest m2 p2 d2) g (Inflate n) (posted_reply result)
inflate_step {m1} {m2} {p1} {p2} {d2} {g} {n} {result} did stands = in_words
    (λ d. InflatesBy m1 m2 p1 p2 d d2 n result) stands did (λ areas sides here at.
    let device = here.ties.parts.device in
    let same = refused_alike (Inflate n) here.ties.queues (inflate_idle (driver_of g areas sides)
    p1 g n device.status) (λ run. inflate_same g areas sides p1 n device.status device.target
    (outstanding_are m1 0 sides.inflate.ring p1.inflate g.inflate run.inflate.ring)
    (outstanding_are m1 1 sides.deflate.ring p1.deflate g.deflate run.deflate.ring)) in
    by_result areas sides result at here same)
