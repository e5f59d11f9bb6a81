-- Pages that a chain named are told and given up, and a request is served.
use Rattle.std.proofs.Common.{◌≡◌, ◌≢◌, ◌∙◌, ap, sym, subst, refl, arith, ℕ, ◌+◌, ◌≤◌, Bool}
use Rattle.std.proofs.Common.{false, List, ◌++◌, length, map, take, Option, Some}
use Rattle.std.proofs.Common.{None, Result, Ok, Err}
use Rattle.std.specs.{Prelude.{IsOk, ◌&&◌, ◌/◌, nat_le}, Int.{w32, from_le_bytes}}
use Rattle.vb_chain.specs.declared.{fault.ChainFault.ChainFault, pieces.Piece.Piece}
use Rattle.vb_request.specs.Request.{request_length}
use Rattle.vb_core.specs.declared.kinds.Kind.{Kind}
use Rattle.vb_core.specs.declared.kinds.Kind.TheVariants.{Inflate, Deflate, Statistics, Hint, Report}
use Rattle.vb_core.specs.declared.{runs.Run.Run, name.Named.Named}
use Rattle.vb_core.specs.declared.device.{Denial.Denial, Device.Device, Denial.TheVariants.Broken}
use Rattle.vb_core.specs.Rings.{used_entry}
use Rattle.vb_core.specs.Devices.{ring_of, needing_reset, queue_denial, with_one_taken}
use Rattle.vb_core.specs.Config.{keeps_free}
use Rattle.vb_core.specs.Using.{use_denial}
use Rattle.vb_monitor.specs.declared.{regions.Region.Region}
use Rattle.vb_monitor.specs.declared.outcome.{Tally.Tally, Outcome.Outcome}
use Rattle.vb_monitor.specs.Accesses.{Access, Discard, Steps}
use Rattle.vb_monitor.specs.Regions.{spot}
use Rattle.vb_monitor.specs.Ends.{Whole, Breaks}
use Rattle.vb_monitor.specs.Giving.{GivesBack, more_told, GivesBackBy, AfterName, after_use, cuts_for, is_kept, spent}
use Rattle.vb_monitor.specs.Giving.{after_last, used_spots, TellsThen, OnceTold, with_named, held_if, DiscardsThen}
use Rattle.vb_monitor.specs.Notices.{stands}
use Rattle.vb_virtio.specs.declared.limits.TheConstants.{MAX_REQUEST_PAGES}
use Rattle.vb_monitor.specs.Chains.{request_length_within, CopiesBy}
use Rattle.vb_monitor.specs.{Pieces.all_parts}
use Rattle.vb_monitor.specs.declared.outcome.{HeldChain.HeldChain}
use Rattle.vb_core.specs.Settings.{holds_chains}
use Rattle.vb_core.specs.declared.settings.Settings.{Settings}
use Rattle.vb_monitor.specs.Machine.{next_chain, serves, whole}
use Rattle.vb_monitor.specs.Still.{bytes_of, StaysUntil, ArePartsMapped}
use Rattle.vb_monitor.proofs.{StillFound.ends_so, StillParts.{served_by_bytes, read_whole}}
use Rattle.vb_served.specs.Store.{Store, After, with_marks}
use Rattle.vb_served.specs.One.{byte, Discards, NamesOne, Settles}
use Rattle.vb_served.specs.One.{BreaksRule, RequestBy, all_of}
use Rattle.vb_served.proofs.StaysLemmas.{IsPlain, Between, from_same}
use Rattle.vb_served.proofs.EndLemmas.{apart, used_so}
use Rattle.vb_served.proofs.MayServe.{MayServe, named_device}
use Rattle.vb_served.proofs.RoomLemmas.{request_room}

-- ---- what was named

settings_kept : (kind : Kind) (d : Device) → (with_one_taken kind d).settings ≡ d.settings
settings_kept Inflate d = refl
settings_kept Deflate d = refl
settings_kept Statistics d = refl
settings_kept Hint d = refl
settings_kept Report d = refl

-- runs are told, and the chain is given back
pub by_telling : (w : Whole) (d : Device) (t : Tally) (head : ℕ) (runs : List Run)
    (named : Named) (s u : Store) (log : List Access) → holds_chains w.kind d.settings ≡ false →
    t.held ≡ None → t.chains ≡ 0 →
    t.keeps ≡ false → IsPlain w.regions → w.regions ≡ all_of (length s.mem) →
    use_denial w.kind head d ≡ None →
    used_spots w.regions (used_entry (ring_of w.kind d) head) ≢ None →
    IsOk (stands (ring_of w.kind (after_use w.kind d)) t.published) →
    StaysUntil (Between s u) (byte s) w.regions log →
    TellsThen w (next_chain w t) d (with_named w.kind d.settings head named t) head runs named log →
    Settles w.kind head runs d w.device w.outcome.why s u
by_telling w d t head runs named s u log is free none keeps plain all open_so there_so ok stays h0 =
    let h = subst (λ (b : Bool). TellsThen w (next_chain w t) d
    (held_if b head (more_told t.told named.pages) (spent named t)) head runs named log) is h0 in
    let e = used_entry (ring_of w.kind d) head in
    let cuts = cuts_for w.kind (is_kept w.kind t.keeps (keeps_free w.kind d)) w.regions runs in
    let gone : DiscardsThen (GivesBack w (next_chain w t) d (spent named t) head) cuts h.rest =
    subst (λ (o : Option HeldChain). OnceTold o w (next_chain w t) d (spent named t) head cuts h.rest) free
    h.goes_on in
    let (s1, same, after_told) = subst (λ (l : List Access). StaysUntil (Between s u) (byte s)
    w.regions l) h.asks stays in
    let marked = with_marks w.kind runs s in
    let made : Steps After marked (map Discard cuts ++ gone.rest) u =
    subst (λ (l : List Access). Steps After marked l u) gone.asks
    (from_same marked s1 u h.rest same after_told) in
    let parts = apart marked u cuts gone.rest made in
    let gives = subst (λ (o : Option Denial). GivesBackBy o w (next_chain w t) d
    (spent named t) head gone.rest) open_so gone.goes_on in
    let (given_back, device, ends) = used_so w d (after_use w.kind d) (spent named t) e
    (spot w.regions e.element_at 4) (spot w.regions (e.element_at + 4) 4)
    (spot w.regions e.index_at 2) parts.between u gone.rest free none plain refl refl refl
    there_so ok parts.then_so gives in
    record {
      between = parts.between;
      discards = subst (λ (rs : List Region). Discards marked (cuts_for w.kind
          (is_kept w.kind false (keeps_free w.kind d)) rs runs) parts.between) all
          (subst (λ (k : Bool). Discards marked (cuts_for w.kind
          (is_kept w.kind k (keeps_free w.kind d)) w.regions runs) parts.between)
          keeps parts.first);
      gives = given_back;
      device = device;
      ends = ends;
    }

-- pages that were named are told and given up, and else nothing is done
pub by_name : (w : Whole) (d1 d : Device) (t : Tally) (head : ℕ) (runs : List Run) (s u : Store)
    (answer : Result Named Denial) (log : List Access) → holds_chains w.kind d1.settings ≡ false →
    t.held ≡ None → t.chains ≡ 0 →
    t.given ≡ false → t.keeps ≡ false → IsPlain w.regions → w.regions ≡ all_of (length s.mem) →
    MayServe w.regions w.kind d1 head t.published →
    ((named : Named) → answer ≡ Ok named → d ≡ with_one_taken w.kind d1) →
    StaysUntil (Between s u) (byte s) w.regions log →
    AfterName w (next_chain w t) d t head runs answer log →
    NamesOne w.kind head runs d w.device w.outcome.why s u answer
by_name w d1 d t head runs s u (Err why) log on free none given keeps plain all may taken stays h =
    let (so, device, still) = ends_so (StaysUntil (Between s u) (byte s) w.regions) t.given w d t
    (Some why) false log given stays h in
    record { ends = so; device = device; memory = still }
by_name w d1 d t head runs s u (Ok named) log on free none given keeps plain all may taken stays h =
    let same : d ≡ with_one_taken w.kind d1 = taken named refl in
    by_telling w d t head (take named.runs runs) named s u log
    (ap (λ (x : Device). holds_chains w.kind x.settings) same
    ∙ (ap (λ (x : Settings). holds_chains w.kind x) (settings_kept w.kind d1) ∙ on)) free none keeps plain all
    (subst (λ (x : Device). use_denial w.kind head x ≡ None) (sym same) may.open_so)
    (subst (λ (x : Device). used_spots w.regions (used_entry (ring_of w.kind x) head) ≢ None)
    (sym same) may.there_so)
    (subst (λ (x : Device). IsOk (stands (ring_of w.kind (after_use w.kind x)) t.published))
    (sym same) may.goes_on) stays h

-- ---- the kinds

-- a notice of all of memory
abbrev pub over : ℕ → Kind → Device → Outcome → Whole
over n kind d2 outcome = whole (all_of n) kind d2 outcome

-- what is known where a chain of these pieces is served
pub record IsFound (kind : Kind) (d1 : Device) (t : Tally) (head : ℕ) (pieces : List Piece)
    (s : Store) : Type 0 where
  pub open_so : queue_denial kind d1 ≡ None
  pub holds : d1.settings.holds_deflates ≡ 0
  pub held : t.held ≡ None
  pub none : t.chains ≡ 0
  pub given : t.given ≡ false
  pub keeps : t.keeps ≡ false
  pub longest : t.longest ≡ MAX_REQUEST_PAGES
  pub plain : IsPlain (all_of (length s.mem))
  pub may : MayServe (all_of (length s.mem)) kind d1 head t.published
  pub parts : ArePartsMapped (all_of (length s.mem)) (all_parts pieces)

abbrev pub Still : Store → Store → List Access → Type 0
Still s u log = StaysUntil (Between s u) (byte s) (all_of (length s.mem)) log

pub broken_so : (kind : Kind) (d1 d2 : Device) (outcome : Outcome) (t : Tally) (s u : Store)
    (fault : ChainFault) (log : List Access) → t.given ≡ false → Still s u log →
    Breaks (over (length s.mem) kind d2 outcome) d1 t fault log →
    BreaksRule fault d1 d2 outcome.why s u
broken_so kind d1 d2 outcome t s u fault log given stays h =
    let (so, device, still) = ends_so (Still s u) t.given (over (length s.mem) kind d2 outcome)
    (needing_reset d1) t (Some (Broken fault)) false log given stays h in
    record { ends = so; device = device; memory = still }

-- a request of this device's guests has no more numbers than one of the model
request_so : (t : Tally) (pieces : List Piece) (n : ℕ) → t.longest ≡ MAX_REQUEST_PAGES →
    request_length pieces ≡ Ok n → request_length_within t.longest pieces ≡ Ok n
request_so t pieces n longest e =
    ap (λ (most : ℕ). request_length_within most pieces) longest ∙ e

pub by_inflate : (d1 d2 : Device) (outcome : Outcome) (t : Tally) (head : ℕ) (pieces : List Piece)
    (s u : Store) (o : Result ℕ ChainFault) (log : List Access) →
    IsFound Inflate d1 t head pieces s → request_length pieces ≡ o → Still s u log →
    CopiesBy o (over (length s.mem) Inflate d2 outcome)
    (next_chain (over (length s.mem) Inflate d2 outcome) t) d1 t head pieces log →
    RequestBy o Inflate head pieces d1 d2 outcome s u
by_inflate d1 d2 outcome t head pieces s u (Err f) log is e stays h =
    broken_so Inflate d1 d2 outcome t s u f log is.given stays h
by_inflate d1 d2 outcome t head pieces s u (Ok n) log is e stays h =
    let w = over (length s.mem) Inflate d2 outcome in
    let on = served_by_bytes (Between s u) (byte s) w t d1 head pieces n log refl
    (request_so t pieces n is.longest e) is.parts (request_room (byte s) pieces n e) stays
    (subst (λ (o : Result ℕ ChainFault). CopiesBy o w (next_chain w t) d1 t head pieces log)
    (sym (request_so t pieces n is.longest e)) h) in
    let x = on.is in
    record {
      runs = x.runs;
      device = x.device;
      answer = x.answer;
      names = x.names;
      serves = by_name w d1 (after_last Inflate x.answer x.device) t head x.runs s u x.answer on.rest refl is.held is.none is.given
          is.keeps is.plain refl is.may (λ named same. named_device Inflate
          (bytes_of (byte s) pieces) x.runs d1 x.device x.answer named same x.names) on.still_so x.goes_on;
    }

held_not : (d : Device) → d.settings.holds_deflates ≡ 0 → holds_chains Deflate d.settings ≡ false
held_not d e = grind (arith, e)

pub by_deflate : (d1 d2 : Device) (outcome : Outcome) (t : Tally) (head : ℕ) (pieces : List Piece)
    (s u : Store) (o : Result ℕ ChainFault) (log : List Access) →
    IsFound Deflate d1 t head pieces s → request_length pieces ≡ o → Still s u log →
    CopiesBy o (over (length s.mem) Deflate d2 outcome)
    (next_chain (over (length s.mem) Deflate d2 outcome) t) d1 t head pieces log →
    RequestBy o Deflate head pieces d1 d2 outcome s u
by_deflate d1 d2 outcome t head pieces s u (Err f) log is e stays h =
    broken_so Deflate d1 d2 outcome t s u f log is.given stays h
by_deflate d1 d2 outcome t head pieces s u (Ok n) log is e stays h =
    let w = over (length s.mem) Deflate d2 outcome in
    let on = served_by_bytes (Between s u) (byte s) w t d1 head pieces n log refl
    (request_so t pieces n is.longest e) is.parts (request_room (byte s) pieces n e) stays
    (subst (λ (o : Result ℕ ChainFault). CopiesBy o w (next_chain w t) d1 t head pieces log)
    (sym (request_so t pieces n is.longest e)) h) in
    let x = on.is in
    record {
      runs = x.runs;
      device = x.device;
      answer = x.answer;
      names = x.names;
      serves = by_name w d1 (after_last Deflate x.answer x.device) t head x.runs s u x.answer on.rest (held_not d1 is.holds) is.held is.none is.given
          is.keeps is.plain refl is.may (λ named same. named_device Deflate
          (bytes_of (byte s) pieces) x.runs d1 x.device x.answer named same x.names) on.still_so x.goes_on;
    }
