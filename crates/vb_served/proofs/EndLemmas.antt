-- A chain is given back, and the notice ends.
use Rattle.std.proofs.Common.{◌≡◌, ◌≢◌, ◌∙◌, ap, sym, subst, refl, ℕ, zero, ◌+◌, Bool, true, false}
use Rattle.std.proofs.Common.{List, [], ◌∷◌, ◌++◌, map, Option, Some, None, Result, Ok, Err}
use Rattle.std.specs.Prelude.{IsOk}
use Rattle.std.specs.Int.{w16, w32, to_le_bytes}
use Rattle.vb_chain.specs.declared.fault.ChainFault.{ChainFault}
use Rattle.vb_core.specs.declared.ring.UsedEntry.{UsedEntry}
use Rattle.vb_core.specs.declared.device.{Denial.Denial, Device.Device}
use Rattle.vb_core.specs.Devices.{ring_of}
use Rattle.vb_monitor.specs.declared.{regions.Spot.Spot, cuts.Cut.Cut}
use Rattle.vb_monitor.specs.declared.outcome.{HeldChain.HeldChain, Tally.Tally, Outcome.Outcome}
use Rattle.vb_monitor.specs.Accesses.{Access, ReadWord, Release, Full, Discard, WriteNumber}
use Rattle.vb_monitor.specs.Accesses.{WriteWord, Steps}
use Rattle.vb_monitor.specs.Regions.{spot}
use Rattle.vb_monitor.specs.Ends.{Whole, EndsWhere, FlagsAt}
use Rattle.vb_monitor.specs.Giving.{UsedAt, three_spots, with_given}
use Rattle.vb_monitor.specs.Notices.{AfterIndex, TakesNext, AfterGiven, AfterGivenBy, ServesPublished}
use Rattle.vb_monitor.specs.Notices.{stands}
use Rattle.vb_monitor.specs.Machine.{next_chain}
use Rattle.vb_served.specs.{Store.{Store, After, Puts}, One.{Discards, Gives}}
use Rattle.vb_served.proofs.StaysLemmas.{IsPlain}

-- ---- the end

-- the flags are read, and nothing is changed
flags_so : (w : Whole) (d : Device) (t : Tally) (why : Option Denial) (more : Bool)
    (o : Option Spot) (s u : Store) (log : List Access) → Steps After s log u →
    FlagsAt w d t why more o log → (u ≡ s) × (w.device ≡ d) × (w.outcome.why ≡ why)
flags_so w d t why more None s u log steps h = (
  subst (λ (l : List Access). Steps After s l u) h.nothing steps,
  h.device,
  ap (λ (o : Outcome). o.why) h.outcome,
)
flags_so w d t why more (Some at) s u log steps h =
    let all : h.rest ≡ [] = h.then_stops.nothing in
    let made : Steps After s (Full ∷ ReadWord at h.flags ∷ []) u =
    subst (λ (l : List Access). Steps After s l u)
    (h.asks ∙ ap (λ (l : List Access). Full ∷ ReadWord at h.flags ∷ l) all) steps in
    let (first, same, (second, (e, again), last)) = made in
    (last ∙ (again ∙ same), h.then_stops.device, ap (λ (o : Outcome). o.why) h.then_stops.outcome)

index_so : (w : Whole) (d : Device) (t : Tally) (o : Result Bool ChainFault) (s u : Store)
    (log : List Access) → IsOk o → t.given ≡ true → Steps After s log u →
    AfterIndex o w (TakesNext zero w d t) d t log →
    (u ≡ s) × (w.device ≡ d) × (w.outcome.why ≡ None)
index_so w d t (Err fault) s u log ok given steps h = absurd cc
index_so w d t (Ok false) s u log ok given steps h =
    flags_so w d t None false (spot w.regions (ring_of w.kind d).avail 2) s u log steps
    (subst (λ (b : Bool). EndsWhere b w d t None false log) given h)
index_so w d t (Ok true) s u log ok given steps h =
    flags_so w d t None true (spot w.regions (ring_of w.kind d).avail 2) s u log steps
    (subst (λ (b : Bool). EndsWhere b w d t None true log) given h)

-- where no chain is held the notice goes on by the index
given_so : (w : Whole) (d : Device) (t : Tally) (s u : Store) (log : List Access) →
    t.held ≡ None → t.chains ≡ 0 → t.given ≡ true →
    IsOk (stands (ring_of w.kind d) t.published) → Steps After s log u →
    AfterGiven w (ServesPublished t.chains w) d t log →
    (u ≡ s) × (w.device ≡ d) × (w.outcome.why ≡ None)
given_so w d t s u log free none given ok steps h =
    index_so w d t (stands (ring_of w.kind d) t.published) s u log ok given steps
    (subst (λ (n : ℕ). ServesPublished n w d t log) none
    (subst (λ (o : Option HeldChain). AfterGivenBy o w (ServesPublished t.chains w) d t log) free h))

-- ---- discards and the used element

pub record Apart (s u : Store) (cuts : List Cut) (rest : List Access) : Type 0 where
  pub between : Store
  pub first : Discards s cuts between
  pub then_so : Steps After between rest u

pub apart : (s u : Store) (cuts : List Cut) (rest : List Access) →
    Steps After s (map Discard cuts ++ rest) u → Apart s u cuts rest
apart s u [] rest h = record { between = s; first = refl; then_so = h }
apart s u (cut ∷ cuts) rest (next, lost, more) =
    let on = apart next u cuts rest more in
    record { between = on.between; first = (next, lost, on.first); then_so = on.then_so }

-- the chain is given back where its element is guest memory, and the notice ends
pub used_so : (w : Whole) (d d2 : Device) (t : Tally) (e : UsedEntry) (a b c : Option Spot)
    (s u : Store)
    (log : List Access) → t.held ≡ None → t.chains ≡ 0 → IsPlain w.regions →
    spot w.regions e.element_at 4 ≡ a → spot w.regions (e.element_at + 4) 4 ≡ b →
    spot w.regions e.index_at 2 ≡ c → three_spots a b c ≢ None →
    IsOk (stands (ring_of w.kind d2) t.published) → Steps After s log u →
    UsedAt w (next_chain w t d2 (with_given t)) d2 t e (three_spots a b c) log →
    Gives e s u × (w.device ≡ d2) × (w.outcome.why ≡ None)
used_so w d d2 t e None b c s u log is none plain ea eb ec there ok steps h = absurd (there refl)
used_so w d d2 t e (Some a) None c s u log is none plain ea eb ec there ok steps h = absurd
    (there refl)
used_so w d d2 t e (Some a) (Some b) None s u log is none plain ea eb ec there ok steps h =
    absurd (there refl)
used_so w d d2 t e (Some a) (Some b) (Some c) s u log is none plain ea eb ec there ok steps h =
    let made : Steps After s (WriteNumber a e.id ∷ WriteNumber b e.length ∷ Release
    ∷ WriteWord c e.index ∷ h.rest) u =
    subst (λ (l : List Access). Steps After s l u) h.asks steps in
    let (s1, put_id, (s2, put_length, (s3, same, (s4, put_index, rest)))) = made in
    let (last, device, ends) = given_so w d2 (with_given t) s4 u h.rest is none refl ok rest
    h.goes_on in (
      record {
        with_id = s1;
        with_length = s2;
        id = subst (λ (n : ℕ). Puts n (to_le_bytes w32 e.id) s s1) (plain.place e.element_at 4 a ea)
            put_id;
        long = subst (λ (n : ℕ). Puts n (to_le_bytes w32 e.length) s1 s2)
            (plain.place (e.element_at + 4) 4 b eb) put_length;
        index = subst (λ (x : Store). Puts e.index_at (to_le_bytes w16 e.index) s2 x) (sym last)
            (subst (λ (x : Store). Puts e.index_at (to_le_bytes w16 e.index) x s4) same
            (subst (λ (n : ℕ). Puts n (to_le_bytes w16 e.index) s3 s4)
            (plain.place e.index_at 2 c ec) put_index));
      },
      device,
      ends,
    )
