-- Each call, whatever it is answered, leaves as many pages that count as the table says.
use Rattle.std.proofs.Common.{Bool, List, [], ◌∷◌, ap, arith, cond, false, inl, inr, refl, subst, sym, true, ℕ, ◌+◌, ◌∙◌, ◌≤◌, ◌≡◌, ◌≢◌}
use Rattle.std.specs.Prelude.{None, Option, Some, count_by, length, not, slice_get, ◌&&◌}
use Rattle.vb_model.proofs.Cases.{by_kind, match_cases}
use Rattle.vb_model.proofs.Changes.{Effect, Has_called, Is_aimed, Is_gone, Is_new, Is_plugged, Same, effect, same_some}
use Rattle.vb_model.proofs.Outcomes.{begun}
use Rattle.vb_model.proofs.Performed.{Performed, honest_case}
use Rattle.vb_model.proofs.Counts.{named-append}
use Rattle.vb_model.proofs.PageSteps.{after_take}
use Rattle.vb_model.proofs.Serving.{serving_keeps}
use Rattle.std.specs.Prelude.{remove}
use Rattle.vb_model.specs.Device.{ServesRequests, settled, used}
use Rattle.vb_model.specs.Driver.{claim_refusal}
use Rattle.vb_virtio.specs.FirstRefusal.{first_refusal}
use Rattle.vb_virtio.specs.Status.{feature_causes}
use Rattle.vb_virtio.specs.Queues.{Deflating, Inflating, Kind, Reporting_free, Request}
use Rattle.vb_virtio.specs.Queues.{kind_of_queue}
use Rattle.vb_model.specs.Guest.{Guest, requests, tells_host, with_requests}
use Rattle.vb_model.specs.HostEvents.{WorldStep}
use Rattle.vb_model.specs.Refusals.{refusal_of}
use Rattle.vb_model.specs.Requests.{pages_named}
use Rattle.vb_model.specs.Rogue.{GuestStep}
use Rattle.vb_model.specs.World.{World, guest_at}
use Rattle.vb_model.specs.declared.calls.Call.{Call}
use Rattle.vb_model.specs.declared.calls.Call.TheVariants.{Alloc, Ask, Deflate, Finish, Free, Inflate, Init, Oom, Read, Reap, Report, Reset, Scribble, Serve, SetTarget, Stats, Sweep, Take, Work, Write}
use Rattle.vb_model.specs.declared.calls.Claim.{Claim}
use Rattle.vb_model.specs.declared.calls.Event.TheVariants.{Guest as OnGuest}
use Rattle.vb_model.specs.declared.replies.Reply.{Reply}
use Rattle.vb_room.proofs.Balloons.{same_count, with_same, SameBalloon, by_flags, clears, counted_few, counted_rogue, fills_same, inside_few, itself, no_flag, no_flags, reaps_same, returns_same, same_by, same_so, set_more, set_no_less, takes_buffer_same, takes_same, works_same}
use Rattle.vb_room.proofs.Bare.{AllBare, IsBare, in_runs, init_idle}
use Rattle.vb_room.specs.Counts.{serve_puts_in, serve_takes_out, pages_in_queue, CallsCountSo, CountsSo, finish_puts_in, finish_takes_out, pages_of_request}
use Rattle.vb_room.specs.Tie.{counted}

-- ---- a finish

sets : (r : Request) (i : ℕ) (g new : Guest) → slice_get g.inflate.taken i ≡ Some r
    → new ≡ settled Inflating r.pages (used Inflating i r g)
    → (counted g ≤ counted new) × (counted new ≤ counted g + pages_of_request g.inflate.taken i)
sets r i g new is e = rw (is, e) (
  less (not g.rogue && tells_host g) _ _ (set_no_less r.pages 0 g.ballooned),
  by_flags (not g.rogue && tells_host g) _ _ _ (omega (arith, set_more r.pages 0 g.ballooned, inside_few (length g.ballooned) 0 r.pages)),
) where
  less : (b : Bool) (k l : ℕ) → k ≤ l → cond b k 0 ≤ cond b l 0
  less true k l h = h
  less false k l h = omega arith

abbrev FinishesSo : Option Kind → ℕ → Guest → Guest → Type 0
FinishesSo o i g new = (counted g ≤ counted new + finish_takes_out o i g) × (counted new ≤ counted g + finish_puts_in o i g)

finishes : (kind : Kind) (i : ℕ) (r : Request) (g new : Guest) → slice_get (requests kind g).taken i ≡ Some r
    → new ≡ settled kind r.pages (used kind i r g) → FinishesSo (Some kind) i g new
finishes Inflating i r g new is e = let s = sets r i g new is e in (omega (arith, s.0), s.1)
finishes Deflating i r g new is e = let s = clears r i g new is e in (s.0, omega (arith, s.1))
finishes Reporting_free i r g new is e =
    let s = same_so Work g new (same_by g new _ e (record { flags = refl; features = refl; rogue = refl })) in (s.least, s.most)

finish_so : (o : Option Kind) (q i : ℕ) (g new : Guest) → kind_of_queue q ≡ o → FinishesSo o i g new → CountsSo (Finish q i) g new
finish_so o q i g new e s = let t = subst (λ (k : Option Kind). FinishesSo k i g new) (sym e) s in record { least = t.0; most = t.1 }

-- ---- a serve: each request is taken, and finished before the next one

abbrev left : Kind → Guest → ℕ
left kind g = pages_in_queue (requests kind g)

taken_left : (kind : Kind) (r : Request) (rest : List Request) (g : Guest) → (requests kind g).posted ≡ r ∷ rest
    → left kind (with_requests kind (after_take r rest (requests kind g)) g) ≡ left kind g
taken_left Inflating r rest g e = omega (arith, ap pages_named e, named-append g.inflate.taken (record r { visited = 0 } ∷ []))
taken_left Deflating r rest g e = omega (arith, ap pages_named e, named-append g.deflate.taken (record r { visited = 0 } ∷ []))
taken_left Reporting_free r rest g e = omega (arith, ap pages_named e, named-append g.report.taken (record r { visited = 0 } ∷ []))

removed : (rs : List Request) (x : Request) → slice_get rs 0 ≡ Some x → pages_named (remove rs 0) + length x.pages ≡ pages_named rs
removed [] x e = absurd cc
removed (r ∷ rs) x e = omega (arith, ap (λ (y : Request). length y.pages) (let same : r ≡ x = cc in same))

of_first : (rs : List Request) (x : Request) → slice_get rs 0 ≡ Some x → pages_of_request rs 0 ≡ length x.pages
of_first rs x e = rw e refl

finished_left : (kind : Kind) (x : Request) (g : Guest) → slice_get (requests kind g).taken 0 ≡ Some x
    → (left kind (settled kind x.pages (used kind 0 x g)) + length x.pages ≡ left kind g)
    × (pages_of_request (requests kind g).taken 0 ≡ length x.pages)
finished_left Inflating x g e = (omega (arith, removed g.inflate.taken x e), of_first g.inflate.taken x e)
finished_left Deflating x g e = (omega (arith, removed g.deflate.taken x e), of_first g.deflate.taken x e)
finished_left Reporting_free x g e = (omega (arith, removed g.report.taken x e), of_first g.report.taken x e)

-- as many more or less as pages were left
abbrev ServesSo : Kind → Guest → Guest → Type 0
ServesSo kind g new = (counted g + serve_takes_out (Some kind) new ≤ counted new + serve_takes_out (Some kind) g)
    × (counted new + serve_puts_in (Some kind) new ≤ counted g + serve_puts_in (Some kind) g)

serves_on : (kind : Kind) (a b c : Guest) → ServesSo kind a b → ServesSo kind b c → ServesSo kind a c
serves_on kind a b c s t = (omega (arith, s.0, t.0), omega (arith, s.1, t.1))

serves_take : (kind : Kind) (g new : Guest) → SameBalloon g new → left kind new ≡ left kind g → ServesSo kind g new
serves_take Inflating g new s e = let c = same_count g new s in (omega (arith, c), omega (arith, c, e))
serves_take Deflating g new s e = let c = same_count g new s in (omega (arith, c, e), omega (arith, c))
serves_take Reporting_free g new s e = let c = same_count g new s in (omega (arith, c), omega (arith, c))

serves_finish : (kind : Kind) (x : Request) (g new : Guest) → FinishesSo (Some kind) 0 g new
    → left kind new + length x.pages ≡ left kind g → pages_of_request (requests kind g).taken 0 ≡ length x.pages → ServesSo kind g new
serves_finish Inflating x g new s e f = (omega (arith, s.0), omega (arith, s.1, e, f))
serves_finish Deflating x g new s e f = (omega (arith, s.0, e, f), omega (arith, s.1))
serves_finish Reporting_free x g new s e f = (omega (arith, s.0), omega (arith, s.1))

-- what the serve of a queue leaves, step by step
serves : (kind : Kind) (g new : Guest) (reply : Reply) → ServesRequests kind (requests kind g).posted 0 g reply new → ServesSo kind g new
serves kind g new reply s = serving_keeps kind (ServesSo kind g)
    (λ x r rest e h. serves_on kind g x (with_requests kind (after_take r rest (requests kind x)) x) h
    (serves_take kind x (with_requests kind (after_take r rest (requests kind x)) x) (with_same kind _ x) (taken_left kind r rest x e)))
    (λ x r e h. let done = finished_left kind r x e in
    serves_on kind g x (settled kind r.pages (used kind 0 r x)) h
    (serves_finish kind r x (settled kind r.pages (used kind 0 r x)) (finishes kind 0 r x _ e refl) done.0 done.1))
    (requests kind g).posted 0 g reply new refl s (omega arith, omega arith)

serve_so : (o : Option Kind) (q : ℕ) (kind : Kind) (g new : Guest) → kind_of_queue q ≡ Some kind → ServesSo kind g new → CountsSo (Serve q) g new
serve_so o q kind g new e s =
    let least : counted g ≤ counted new + serve_takes_out (Some kind) g = omega (arith, s.0) in
    let most : counted new ≤ counted g + serve_puts_in (Some kind) g = omega (arith, s.1) in
    record {
      least = subst (λ (k : Option Kind). counted g ≤ counted new + serve_takes_out k g) (sym e) least;
      most = subst (λ (k : Option Kind). counted new ≤ counted g + serve_puts_in k g) (sym e) most;
    }

-- ---- an initialisation: of a guest that isn't ready nothing counts

none_idle : (g : Guest) → IsBare g → g.status ≢ 15 → counted g ≡ 0
none_idle g h n = omega (arith, counted_few g, no_flag g.ballooned (h.idle n))

started : (g new : Guest) → IsBare g → g.status ≢ 15 → new.ballooned ≡ g.ballooned → (counted g ≡ 0) × (counted new ≡ 0)
started g new h n e = (
  none_idle g h n,
  omega (arith, counted_few new, ap (λ (flags : List Bool). count_by (λ b. b) flags) e, no_flag g.ballooned (h.idle n)),
)

none_so : (call : Call) (g new : Guest) → counted g ≡ 0 → counted new ≡ 0 → CountsSo call g new
none_so call g new e f = record { least = omega (arith, e); most = omega (arith, f) }

-- ---- a call of an honest guest that isn't refused

same_refused : (call : Call) (g new : Guest) → new ≡ g → CountsSo call g new
same_refused call g new e = same_so call g new (same_by g new g e (itself g))

by_change : (call : Call) (g new x : Guest) → new ≡ x → SameBalloon g x → CountsSo call g new
by_change call g new x e s = same_so call g new (same_by g new x e s)

performed_so : (call : Call) (g : Guest) (claims : List Claim) (reply : Reply) (new : Guest) → IsBare g
    → refusal_of g call ≡ None → Performed call g claims reply new → CountsSo call g new
performed_so (Init wanted) g claims reply new h e s = elim (match_cases (claim_refusal claims) _ _ s.1) [
  | inl p ↦ let b = begun (first_refusal (feature_causes wanted)) wanted _ reply new p.1 in
      let z = started g new h (init_idle g wanted e) (ap (λ (x : Guest). x.ballooned) b) in none_so (Init wanted) g new z.0 z.1
  | inr r ↦ same_refused (Init wanted) g new r.2.1
]
performed_so Reset g claims reply new h e s = record {
  least = omega arith;
  most = omega (arith, counted_few new, ap (λ (x : Guest). count_by (λ b. b) x.ballooned) s.1.1, no_flags g.config.pages);
}
performed_so (Alloc cpu order) g claims reply new h e s = by_change _ g new _ s.1.3 (record { flags = refl; features = refl; rogue = refl })
performed_so (Free cpu start order) g claims reply new h e s = by_change _ g new _ s.1.1 (record { flags = refl; features = refl; rogue = refl })
performed_so (Read page offset len) g claims reply new h e s = by_change _ g new _ s.1.1 (itself g)
performed_so (Write page offset bytes) g claims reply new h e s = elim (match_cases (claim_refusal claims) _ _ s.1) [
  | inl p ↦ by_change _ g new _ p.1.1 (record { flags = refl; features = refl; rogue = refl })
  | inr r ↦ same_refused _ g new r.2.1
]
performed_so (Scribble page offset bytes) g claims reply new h e s = elim (match_cases (claim_refusal claims) _ _ s.1) [
  | inl p ↦ let none = counted_rogue new p.1.state.still in record { least = omega arith; most = omega (arith, none) }
  | inr r ↦ same_refused _ g new r.2.1
]
performed_so (Inflate n) g claims reply new h e s = by_change _ g new _ s.1.4.3 (record { flags = refl; features = refl; rogue = refl })
performed_so (Deflate n) g claims reply new h e s = by_change _ g new _ s.1.3 (record { flags = refl; features = refl; rogue = refl })
performed_so (Oom n) g claims reply new h e s = by_change _ g new _ s.1.3 (record { flags = refl; features = refl; rogue = refl })
performed_so (Report from) g claims reply new h e s = by_change _ g new _ s.1.3 (record { flags = refl; features = refl; rogue = refl })
performed_so Stats g claims reply new h e s = same_so _ g new (fills_same g.buffer g reply new s.1)
performed_so (Reap q) g claims reply new h e s = elim (match_cases (kind_of_queue q) _ _ s.1) [
  | inl none ↦ absurd none.1
  | inr k ↦ same_so _ g new (reaps_same k.0 (requests k.0 g).done g reply new k.2)
]
performed_so (Take q) g claims reply new h e s = elim (match_cases (kind_of_queue q) _ _ s.1) [
  | inl none ↦ same_so _ g new (takes_buffer_same g.buffer g reply new none.1)
  | inr k ↦ same_so _ g new (takes_same k.0 (requests k.0 g).posted g reply new k.2)
]
performed_so Work g claims reply new h e s = same_so _ g new (works_same g reply new s.1)
performed_so (Finish q i) g claims reply new h e s = elim (match_cases (kind_of_queue q) _ _ s.1) [
  | inl none ↦ absurd none.1
  | inr k ↦ finish_so (Some k.0) q i g new k.1 (finishes k.0 i k.2.0 g new k.2.1 k.2.3)
]
performed_so (Serve q) g claims reply new h e s = elim (match_cases (kind_of_queue q) _ _ s.1) [
  | inl none ↦ same_so _ g new (takes_buffer_same g.buffer g none.1.0 new none.1.1)
  | inr k ↦ serve_so (Some k.0) q k.0 g new k.1 (serves k.0 g new reply k.2)
]
performed_so (Sweep page) g claims reply new h e s = by_change _ g new _ s.1.1 (record { flags = refl; features = refl; rogue = refl })
performed_so Ask g claims reply new h e s = same_so _ g new (returns_same g.buffer g reply new s.1)
performed_so (SetTarget n) g claims reply new h e s = by_change _ g new _ s.1.1 (record { flags = refl; features = refl; rogue = refl })

-- ---- any call

pub called_so : (call : Call) (g : Guest) (claims : List Claim) (reply : Reply) (new : Guest) → (g.rogue ≡ false → IsBare g)
    → GuestStep g call claims reply new → CountsSo call g new
called_so call g claims reply new h s = by_kind g call claims reply new s
    (λ rogue r. none_so call g new (counted_rogue g rogue) (counted_rogue new r.stays.still))
    (λ honest p. elim (match_cases (refusal_of g call) _ _ (honest_case g call claims reply new p)) [
      | inl q ↦ performed_so call g claims reply new (h honest) q.0 q.1
      | inr r ↦ same_refused call g new r.2.2
    ])

-- ---- in a run

pub step_so : (w : World) (n : ℕ) (call : Call) (reply : Reply) (v : World) (g new : Guest) → AllBare w → WorldStep w (OnGuest n call) reply v
    → guest_at w.guests n ≡ Some g → guest_at v.guests n ≡ Some new → CountsSo call g new
step_so w n call reply v g new bare s at there = by (effect w (OnGuest n call) reply v n s) where
  by : Effect w (OnGuest n call) reply n (guest_at w.guests n) (guest_at v.guests n) → CountsSo call g new
  by (Same other e) = same_refused call g new (same_some new g (sym there ∙ (e ∙ at)))
  by (Is_aimed floor targets x target is said here after) = absurd cc
  by (Has_called x y own claims is here gives step after) =
      let c : call ≡ own = cc in
      let before : x ≡ g = same_some x g (sym here ∙ at) in
      let later : y ≡ new = same_some y new (sym after ∙ there) in
      let a = subst (λ (z : Guest). GuestStep z own claims reply y) before step in
      let b = subst (λ (z : Guest). GuestStep g own claims reply z) later a in
      called_so call g claims reply new (bare n g at) (subst (λ (c : Call). GuestStep g c claims reply new) (sym c) b)
  by (Is_new x is here after) = absurd cc
  by (Is_gone is after) = absurd cc
  by (Is_plugged config none after) = absurd (let f : None ≡ Some g = sym none ∙ at in cc)

pub calls_count_so : CallsCountSo
calls_count_so frames spares h r n i w v call reply g new state step at there =
    step_so w n call reply v g new (in_runs frames spares h r i w state) step at there
