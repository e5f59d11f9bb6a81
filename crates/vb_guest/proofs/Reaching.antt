-- From what is served of one chain to what is served of a queue, over a guest's supply of frames.
use Rattle.std.proofs.Common.{◌≡◌, ℕ, suc, ◌+◌, ◌≤◌, Bool, true, false, List, [], ◌∷◌, length}
use Rattle.std.proofs.Common.{Option, Some, None, Result, Ok, Err, refl, sym, ◌∙◌, ap, subst, arith}
use Rattle.std.specs.Prelude.{MatchBool, MatchOption}
use Rattle.vb_model.specs.{Device.{Finishes, ServesRequests, TakesBuffer, TakesRequest}, Guest.Guest}
use Rattle.std.proofs.{Common.◌++◌, lemmas.Bool.{MatchBool-at_false, MatchBool-at_true}}
use Rattle.std.specs.Prelude.{remove}
use Rattle.vb_model.{proofs.PageSteps.after_take, specs.Device.{settled, used}}
use Rattle.vb_model.specs.{Guest.with_requests, Requests.{BufferPosted, StatisticsBuffer}}
use Rattle.vb_guest.specs.Replies.{taken_reply}
use Rattle.vb_virtio.specs.FirstRefusal.{first_refusal}
use Rattle.vb_virtio.specs.Tests.{times, one_if}
use Rattle.vb_virtio.specs.Queues.{Deflating, Inflating, Kind, Reporting_free, Request}
use Rattle.vb_virtio.specs.Queues.{kind_of_queue}
use Rattle.vb_virtio.specs.declared.refusals.Refusal.{Refusal}
use Rattle.vb_model.specs.Guest.{requests}
use Rattle.vb_model.specs.Refusals.{negotiated, refusal_of, taken_count}
use Rattle.vb_model.specs.Rogue.{RogueStep}
use Rattle.vb_model.specs.Tables.{serve_causes}
use Rattle.vb_model.specs.declared.{calls.Call.TheVariants.Serve}
use Rattle.vb_model.specs.declared.replies.Reply.{Reply, TheVariants.{Finished}}
use Rattle.vb_model.specs.declared.replies.Reply.TheVariants.{Served, Taken}
use Rattle.vb_ram.specs.{Pages.{Pages, frame_at}, Part.Part}
use Rattle.vb_driver.specs.State.{DriverState}
use Rattle.vb_guest.proofs.{Closing.{honest_own}}
use Rattle.vb_guest.proofs.{Handing.handed_back, Kept.SameOwn, Moving.{moves_as, used_out}}
use Rattle.vb_guest.proofs.{RogueServe.{moves_of, moves_both, RogueMoves, serve_told}}
use Rattle.vb_guest.proofs.{Rogues.rogue_own, ServeRefusing.{at_none, none_at, none_taken}}
use Rattle.vb_guest.proofs.Standing.{IsGuest, by_guest, honest_is, own_moved, rogue_is, stands_of}
use Rattle.vb_guest.specs.declared.served.Served.{Served as ServedChains}
use Rattle.vb_guest.specs.{Exact.KeepsFrames, Stands.{Honest, Rogue, Stands}}
use Rattle.vb_guest.specs.Serving.{HonestNext, LosesBehind, NextStep, RestStep, UsesNext, first_reply}
use Rattle.vb_guest.specs.Serving.{served_until}
use Rattle.vb_guest.specs.Steps.{AreOut, Frees, Reaches, backing_count}
use Rattle.vb_guest.specs.Supply.{Moves, Supply, nothing, supply_of}

-- ---- one chain, once its frames have gone back

pub next_reaches : {keeps : Bool}
    {m1 m2 m3 : Pages} {p1 : Part} {p2 : Part} {p3 : Part} {d : DriverState} {g : Guest}
    {out1 out2 : List Bool} (q : ℕ) (result : Result (Option ℕ) Refusal)
    → Stands keeps m1 p1 d g → SameOwn p1 p2 → m3 ≡ m2 → p3 ≡ record p2 { loose = []; own = p3.own }
    → (Honest m1 p1 d g → Frees (Honest m2 (handed_back p2) d) (HonestNext q g result) p2.loose g)
    → (Rogue m1 p1 d g → Frees (Rogue m2 (handed_back p2) d)
    (RogueStep g (Serve q) [] (first_reply result)) p2.loose g)
    → Moves (supply_of p2 out1) (supply_of p3 out2) nothing (λ n. times n p2.loose)
    → Reaches (Stands keeps m3 p3 d) (NextStep q result g) (supply_of p1 out1) (supply_of p3 out2) g
next_reaches {keeps} {m1} {m2} {m3} {p1} {p2} {p3} {d} {g} {out1} {out2} q result stands same memory
    part honest rogue moves = by_guest stands
    (λ h. over (Honest m2 (handed_back p2) d) (HonestNext q g result) (honest h)
    (λ x s. honest_is x (honest_own memory part s)) (λ x s. subst (λ b. MatchBool b
    (RogueStep g (Serve q) [] (first_reply result) x) (HonestNext q g result x))
    (sym h.ties.parts.guest.honest) s))
    (λ r. over (Rogue m2 (handed_back p2) d) (RogueStep g (Serve q) [] (first_reply result)) (rogue r)
    (λ x s. rogue_is x (rogue_own memory part s)) (λ x s. subst (λ b. MatchBool b
    (RogueStep g (Serve q) [] (first_reply result) x) (HonestNext q g result x)) (sym r.rogue) s))
  where
    first : Moves (supply_of p1 out1) (supply_of p3 out2) nothing (λ n. times n p2.loose)
    first = rw (← same.flag, ← same.numbers) moves

    over : (Old Step : Guest → Type 0) → Frees Old Step p2.loose g
        → ((x : Guest) → Old x → IsGuest m3 p3 d x) → ((x : Guest) → Step x → NextStep q result g x)
        → Reaches (Stands keeps m3 p3 d) (NextStep q result g) (supply_of p1 out1)
        (supply_of p3 out2) g
    over Old Step step turn told =
        let all = moves_as first (λ n. omega (arith, step.freed n)) in record {
          new = step.new;
          stands = stands_of (turn step.new step.stands) (own_moved out1 out2 all stands.own);
          step = told step.new step.step;
          moves = all;
        }

-- the frames that back the pages are out then
pub out_after : (p1 p2 : Part) {out1 out2 : List Bool} (g new : Guest)
    → Moves (supply_of p1 out1) (supply_of p2 out2) (λ n. backing_count n new)
    (λ n. backing_count n g) → p1.keeps ≡ false → AreOut g out1 → AreOut new out2
out_after p1 p2 {out1} {out2} g new moves none out n = omega (
  arith,
  moves.balance n,
  out n,
  ap one_if (used_out (supply_of p1 out1) n none),
  ap one_if (used_out (supply_of p2 out2) n (moves.keeps ∙ none)),
)

-- no frame moves
pub still_moves : (s : Supply) (f : ℕ → ℕ) → Moves s s f f
still_moves s f = record {
  keeps = refl;
  asked = λ e. refl;
  untouched = λ e. refl;
  count = refl;
  balance = λ n. refl;
}

-- ---- memory that only loses frames, and has as many in the end

pub first_keeps : (m1 m2 m3 : Pages) → LosesBehind m1 m2 → LosesBehind m2 m3 → KeepsFrames m1 m3
    → KeepsFrames m1 m2
first_keeps m1 m2 m3 first second same page = by (frame_at m1 page) (frame_at m2 page) refl refl
  where
    by : (o n : Option ℕ) → frame_at m1 page ≡ o → frame_at m2 page ≡ n
        → frame_at m2 page ≡ frame_at m1 page
    by None None e f = f ∙ sym e
    by None (Some x) e f = absurd (let bad = sym e ∙ first page x f in cc)
    by (Some x) n e f = second page x (same page ∙ e) ∙ sym e

pub second_keeps : (m1 m2 m3 : Pages) → LosesBehind m1 m2 → LosesBehind m2 m3 → KeepsFrames m1 m3
    → KeepsFrames m2 m3
second_keeps m1 m2 m3 first second same page =
    same page ∙ sym (first_keeps m1 m2 m3 first second same page)

pub loses_both : (m1 m2 m3 : Pages) → LosesBehind m1 m2 → LosesBehind m2 m3 → LosesBehind m1 m3
loses_both m1 m2 m3 first second page frame e = first page frame (second page frame e)

-- ---- an honest guest's next chain, and those after it

-- what is left where a request was taken and used
pub record IsLeft (kind : Kind) (rest : List Request) (g new : Guest) : Type 0 where
  pub posted : (requests kind new).posted ≡ rest
  pub taken : (requests kind g).taken ≡ [] → (requests kind new).taken ≡ []
  pub status : new.status ≡ g.status
  pub features : new.features ≡ g.features
  pub rogue : new.rogue ≡ g.rogue

left_of : (kind : Kind) (r x : Request) (rest : List Request) (g : Guest)
    → IsLeft kind rest g (settled kind x.pages (used kind 0 x
    (with_requests kind (after_take r rest (requests kind g)) g)))
left_of Inflating r x rest g = record {
  posted = refl;
  taken = λ none. ap (λ (l : List Request). remove (l ++ (record r { visited = 0 } ∷ [])) 0) none;
  status = refl;
  features = refl;
  rogue = refl;
}
left_of Deflating r x rest g = record {
  posted = refl;
  taken = λ none. ap (λ (l : List Request). remove (l ++ (record r { visited = 0 } ∷ [])) 0) none;
  status = refl;
  features = refl;
  rogue = refl;
}
left_of Reporting_free r x rest g = record {
  posted = refl;
  taken = λ none. ap (λ (l : List Request). remove (l ++ (record r { visited = 0 } ∷ [])) 0) none;
  status = refl;
  features = refl;
  rogue = refl;
}

pub leaves : (kind : Kind) (r : Request) (rest : List Request) (g taken new : Guest)
    → TakesRequest kind (r ∷ rest) g (Taken r.head) taken
    → Finishes kind 0 taken (Finished r.head) new → IsLeft kind rest g new
leaves kind r rest g taken new s t =
    let (x, at, told, left) = t in
    let whole : new ≡ settled kind x.pages (used kind 0 x
    (with_requests kind (after_take r rest (requests kind g)) g)) =
    left ∙ ap (λ (y : Guest). settled kind x.pages (used kind 0 x y)) s.1 in
    subst (IsLeft kind rest g) (sym whole) (left_of kind r x rest g)

still_free : (q : ℕ) (kind : Kind) (rest : List Request) (g new : Guest)
    → kind_of_queue q ≡ Some kind → IsLeft kind rest g new → refusal_of g (Serve q) ≡ None
    → refusal_of new (Serve q) ≡ None
still_free q kind rest g new e left free =
    let zero = none_taken q g free in
    let same : taken_count new q ≡ taken_count g q =
    none_at q kind new e (left.taken (at_none q kind g e zero)) ∙ sym zero in
    (ap (λ (s : ℕ). first_refusal (serve_causes q
    (record { status = s; features = new.features }) (taken_count new q))) left.status
    ∙ ap (λ (f : ℕ). first_refusal (serve_causes q
    (record { status = g.status; features = f }) (taken_count new q))) left.features
    ∙ ap (λ (n : ℕ). first_refusal (serve_causes q (negotiated g) n)) same) ∙ free

-- one more chain before the others
abbrev pub HonestRest : ℕ → ℕ → ℕ → ServedChains → Guest → Guest → Type 0
HonestRest q chains left served g new = (kind : Kind) → kind_of_queue q ≡ Some kind
    → refusal_of g (Serve q) ≡ None → length (requests kind g).posted ≤ left
    → ServesRequests kind (requests kind g).posted chains g (Served served.chains served.broken) new

pub more_served : (q chains left h : ℕ) (served : ServedChains) (kind : Kind) (posted : List Request)
    (g mid new : Guest) → kind_of_queue q ≡ Some kind → refusal_of g (Serve q) ≡ None
    → UsesNext kind posted g (Some h) mid → HonestRest q (chains + 1) left served mid new
    → length posted ≤ suc left
    → ServesRequests kind posted chains g (Served served.chains served.broken) new
more_served q chains left h served kind [] g mid new e free next rest few =
    absurd (let bad = next.0 in cc)
more_served q chains left h served kind (r ∷ others) g mid new e free next rest few =
    let left_so = leaves kind r others g next.1 mid next.2 next.3 in
    let more = rest kind e (still_free q kind others g mid e left_so free)
    (omega (arith, few, ap (λ (l : List Request). length l) left_so.posted)) in (
      next.1,
      mid,
      next.2,
      next.3,
      subst (λ (l : List Request). ServesRequests kind l (chains + 1) mid
          (Served served.chains served.broken) new) left_so.posted more,
    )

pub next_of : (q : ℕ) (kind : Kind) (g : Guest) (head : Option ℕ) (mid : Guest)
    → kind_of_queue q ≡ Some kind → HonestNext q g (Ok head) mid
    → UsesNext kind (requests kind g).posted g head mid
next_of q kind g head mid e next =
    subst (λ o. MatchOption o (TakesBuffer g.buffer g (taken_reply (Ok head)) mid)
    (λ k. UsesNext k (requests k g).posted g head mid)) e next.1

pub same_rogue : (q h : ℕ) (g mid : Guest) → HonestNext q g (Ok (Some h)) mid → mid.rogue ≡ g.rogue
same_rogue q h g mid next = by (kind_of_queue q) next.1 where
  uses : (kind : Kind) (posted : List Request) → UsesNext kind posted g (Some h) mid
      → mid.rogue ≡ g.rogue
  uses kind [] s = absurd (let bad = s.0 in cc)
  uses kind (r ∷ rest) s = (leaves kind r rest g s.1 mid s.2 s.3).rogue

  buffer : (b : StatisticsBuffer) → TakesBuffer b g (Taken h) mid → mid.rogue ≡ g.rogue
  buffer (BufferPosted figures) s = ap (λ (x : Guest). x.rogue) s.1
  buffer b s = ap (λ (x : Guest). x.rogue) s.1

  by : (o : Option Kind) → MatchOption o (TakesBuffer g.buffer g (Taken h) mid)
      (λ kind. UsesNext kind (requests kind g).posted g (Some h) mid) → mid.rogue ≡ g.rogue
  by None s = buffer g.buffer s
  by (Some kind) s = uses kind (requests kind g).posted s

-- by which of the two a guest is
rest_of : (q chains left : ℕ) (served : ServedChains) (g new : Guest)
    → (g.rogue ≡ true → RogueStep g (Serve q) [] (Served served.chains served.broken) new)
    → (g.rogue ≡ false → HonestRest q chains left served g new) → RestStep q chains left served g new
rest_of q chains left served g new rogue honest = by g.rogue rogue honest where
  by : (b : Bool)
      → (b ≡ true → RogueStep g (Serve q) [] (Served served.chains served.broken) new)
      → (b ≡ false → HonestRest q chains left served g new)
      → MatchBool b (RogueStep g (Serve q) [] (Served served.chains served.broken) new)
      (HonestRest q chains left served g new)
  by true r h = r refl
  by false r h = h refl

pub told : {g new : Guest} (q chains : ℕ) (broken : Option ℕ) (reply : Reply)
    → RogueStep g (Serve q) [] reply new → RogueStep g (Serve q) [] (Served chains broken) new
told q chains broken reply step = serve_told q chains broken (moves_of (Serve q) reply refl step)

pub then_rest : (q chains left h : ℕ) (served : ServedChains) (g mid new : Guest)
    → NextStep q (Ok (Some h)) g mid → RestStep q (chains + 1) left served mid new
    → RestStep q chains (suc left) served g new
then_rest q chains left h served g mid new next rest = rest_of q chains (suc left) served g new
    (λ e. let first = MatchBool-at_true _ _ e next in
    let second = MatchBool-at_true _ _ first.stays.still rest in
    serve_told q served.chains served.broken
    (moves_both (moves_of (Serve q) _ refl first) (moves_of (Serve q) _ refl second)))
    (λ e kind is free few. let first = MatchBool-at_false _ _ e next in
    let second = MatchBool-at_false _ _ (same_rogue q h g mid first ∙ e) rest in
    more_served q chains left h served kind (requests kind g).posted g mid new is free
    (next_of q kind g (Some h) mid is first) second few)

-- nothing more is there
pub ends_so : (kind : Kind) (posted : List Request) (chains : ℕ) (g new : Guest)
    → UsesNext kind posted g None new
    → ServesRequests kind posted chains g (Served chains None) new
ends_so kind [] chains g new s = (refl, s.1)
ends_so kind (r ∷ rest) chains g new s = absurd (let bad = s.0 in cc)

pub rest_ends : (q chains left : ℕ) (g new : Guest) → NextStep q (Ok None) g new
    → RestStep q chains left (record { chains = chains; broken = None }) g new
rest_ends q chains left g new next =
    rest_of q chains left (record { chains = chains; broken = None }) g new
    (λ e. told q chains None _ (MatchBool-at_true _ _ e next))
    (λ e kind is free few. ends_so kind (requests kind g).posted chains g new
    (next_of q kind g None new is (MatchBool-at_false _ _ e next)))

pub rest_stops : (q chains left : ℕ) (why : Refusal) (g new : Guest) → NextStep q (Err why) g new
    → RestStep q chains left (served_until chains (Err why)) g new
rest_stops q chains left why g new next =
    rest_of q chains left (served_until chains (Err why)) g new
    (λ e. told q _ _ _ (MatchBool-at_true _ _ e next))
    (λ e kind is free few. absurd (let bad = sym free ∙ (MatchBool-at_false _ _ e next).0 in cc))

-- no more may be served
pub rest_over : {m : Pages} {p : Part} {d : DriverState} {keeps : Bool} (q chains : ℕ) (g : Guest)
    → Stands keeps m p d g → RestStep q chains 0 (record { chains = chains; broken = None }) g g
rest_over q chains g stands =
    rest_of q chains 0 (record { chains = chains; broken = None }) g g
    (λ e. serve_told q chains None (by_guest stands
    (λ h. absurd (let bad = sym e ∙ h.ties.parts.guest.honest in cc)) (λ r. unmoved r)))
    (λ e kind is free few. none kind (requests kind g).posted few)
  where
    unmoved : {m : Pages} {p : Part} {d : DriverState} → Rogue m p d g → RogueMoves g g
    unmoved r = record {
      stays = record {
        still = r.rogue;
        config = refl;
        unreserved = r.unreserved;
        sizes = record {
          placed = r.placed;
          flagged = r.flagged;
          framed = r.framed;
          filled = r.filled;
        };
      };
      target = refl;
      loses = λ page frame e. e;
    }

    none : (kind : Kind) (posted : List Request) → length posted ≤ 0
        → ServesRequests kind posted chains g (Served chains None) g
    none kind [] few = (refl, refl)
    none kind (r ∷ rest) few = absurd (omega (arith, few))
