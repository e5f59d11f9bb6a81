-- A chain of each kind is served.
use Rattle.std.proofs.Common.{◌≡◌, ◌≢◌, ◌∙◌, ap, sym, subst, refl, arith, ℕ, ◌+◌, ◌≤◌, Bool}
use Rattle.std.proofs.Common.{true, false, List, ◌++◌, length, take, Option, Some}
use Rattle.std.proofs.Common.{None, Result, Ok, Err}
use Rattle.std.specs.{Prelude.{IsOk, ◌&&◌, ◌/◌, nat_le}, Int.{w32, from_le_bytes}}
use Rattle.std.proofs.lemmas.Bool.Decides.{nat_tests}
use Rattle.vb_chain.specs.declared.{fault.ChainFault.ChainFault, pieces.Piece.Piece}
use Rattle.vb_request.specs.Request.{request_length}
use Rattle.vb_request.specs.Statistics.{statistics_length, is_statistics_length}
use Rattle.vb_core.specs.declared.kinds.Kind.{Kind}
use Rattle.vb_core.specs.declared.kinds.Kind.TheVariants.{Inflate, Deflate, Statistics, Hint, Report}
use Rattle.vb_core.specs.declared.{name.Named.Named}
use Rattle.vb_core.specs.declared.device.{Denial.Denial, Device.Device}
use Rattle.vb_core.specs.Report.{NamesPiecesBy}
use Rattle.vb_core.specs.Rings.{used_entry}
use Rattle.vb_core.specs.Devices.{ring_of, queue_denial, with_one_taken, call_denial}
use Rattle.vb_core.specs.Statistics.{statistics_denial}
use Rattle.vb_monitor.specs.declared.outcome.{Tally.Tally, Outcome.Outcome}
use Rattle.vb_monitor.specs.Accesses.{Access, Steps}
use Rattle.vb_monitor.specs.Regions.{spot}
use Rattle.vb_monitor.specs.Ends.{Whole, EndsWhere}
use Rattle.vb_monitor.specs.Giving.{GivesBackBy, after_use}
use Rattle.vb_monitor.specs.Giving.{with_held}
use Rattle.vb_monitor.specs.Chains.{request_length_within, CopiesBy, FiguresBy, TellsFigures, NamesReport}
use Rattle.vb_monitor.specs.Chains.{told_if, tells_pages, id_of, id_length, has_id, after_id, IdBy}
use Rattle.vb_monitor.specs.Chains.{ServesBytes, ServesHint as ServesPiecesOfHint}
use Rattle.vb_core.specs.Settings.{holds_chains}
use Rattle.vb_monitor.specs.Machine.{next_chain, serves}
use Rattle.vb_monitor.specs.Still.{bytes_of}
use Rattle.vb_monitor.proofs.{StillFound.ends_so, StillParts.{served_by_bytes, read_whole}}
use Rattle.vb_served.specs.Store.{Store, After}
use Rattle.vb_served.specs.One.{byte, ServesReport, HearsBy, ServesHint}
use Rattle.vb_served.specs.One.{HoldsBuffer, BufferBy, ServesChain}
use Rattle.vb_served.proofs.StaysLemmas.{Between, from_same}
use Rattle.vb_served.proofs.EndLemmas.{used_so}
use Rattle.vb_served.proofs.MayServe.{reported_device}
use Rattle.vb_served.proofs.RoomLemmas.{buffer_room, buffer_bytes, id_bytes}
use Rattle.vb_served.proofs.OneLemmas.{over, IsFound, Still, by_name, broken_so, by_inflate, by_deflate}

-- ---- reports and hints of pages

-- where pages of it are told, a chain was named
named_told : (told : Bool) (answer : Result Named Denial) (named : Named) →
    told_if told answer ≡ Ok named → (x : Named) × (answer ≡ Ok x)
named_told told (Err why) named e = absurd cc
named_told told (Ok x) named e = (x, refl)

by_pieces : (kind : Kind) (d1 d2 : Device) (outcome : Outcome) (t : Tally) (head : ℕ)
    (pieces : List Piece) (s u : Store) (log : List Access) →
    holds_chains kind d1.settings ≡ false → IsFound kind d1 t head pieces s → Still s u log →
    NamesReport (over (length s.mem) kind d2 outcome)
    (next_chain (over (length s.mem) kind d2 outcome) t) d1 t head pieces log →
    ServesReport kind head pieces d1 d2 outcome.why s u
by_pieces kind d1 d2 outcome t head pieces s u log free is stays h =
    let w = over (length s.mem) kind d2 outcome in
    record {
      runs = h.runs;
      device = h.device;
      answer = h.answer;
      names = h.names;
      serves = by_name w d1 h.device t head h.runs s u (told_if (tells_pages kind d1) h.answer) log free
          is.held is.none is.given is.keeps is.plain refl is.may (λ named same.
          let (x, so) = named_told (tells_pages kind d1) h.answer named same in
          reported_device kind pieces h.runs d1 h.device x
          (subst (λ (r : Result Named Denial). NamesPiecesBy kind pieces 256 h.runs d1 h.device r) so
          h.names)) stays h.goes_on;
    }

-- ---- ids of hints

id_so : (bytes : List ℕ) → length bytes ≡ 4 → id_of bytes ≡ Some (from_le_bytes w32 bytes)
id_so bytes e = grind (arith, e)

-- an id was read: it is told, and the chain is given back
by_id : (d1 d2 : Device) (outcome : Outcome) (t : Tally) (head : ℕ) (pieces : List Piece)
    (s u : Store) (o : Result ℕ ChainFault) (log : List Access) →
    IsFound Hint d1 t head pieces s → id_length pieces ≡ o → Still s u log →
    CopiesBy o (over (length s.mem) Hint d2 outcome)
    (next_chain (over (length s.mem) Hint d2 outcome) t) d1 t head pieces log →
    HearsBy o head pieces d1 d2 outcome.why s u
by_id d1 d2 outcome t head pieces s u (Err f) log is e stays h =
    broken_so Hint d1 d2 outcome t s u f log is.given stays h
by_id d1 d2 outcome t head pieces s u (Ok n) log is e stays h =
    let w = over (length s.mem) Hint d2 outcome in
    let bytes = bytes_of (byte s) pieces in
    let id = from_le_bytes w32 bytes in
    let d = after_id id d1 in
    let long : length bytes ≡ 4 = id_bytes (byte s) pieces n e in
    let on = read_whole (Between s u) (byte s) w (ServesBytes w (next_chain w t) head) d1 t pieces log
    is.parts (omega (arith, long)) stays h in
    let told = subst (λ (o : Option ℕ). IdBy o w (next_chain w t) d1 t head on.rest)
    (id_so bytes long) on.is in
    let (s1, same, rest) =
    subst (λ (l : List Access). Still s u l) told.asks on.still_so in
    let x = used_entry (ring_of Hint d) head in
    let gives = subst (λ (o : Option Denial). GivesBackBy o w (next_chain w t) d t head told.rest)
    is.may.open_so told.goes_on in
    let (given_back, device, ends) = used_so w d (after_use Hint d) t x (spot w.regions x.element_at 4)
    (spot w.regions (x.element_at + 4) 4) (spot w.regions x.index_at 2) s u told.rest is.held is.none
    is.plain refl refl refl is.may.there_so is.may.goes_on (from_same s s1 u told.rest same rest) gives in
    record { gives = given_back; device = device; ends = ends }

by_hint : (has : Bool) (d1 d2 : Device) (outcome : Outcome) (t : Tally) (head : ℕ)
    (pieces : List Piece) (s u : Store) (log : List Access) → IsFound Hint d1 t head pieces s →
    Still s u log → ServesPiecesOfHint has (over (length s.mem) Hint d2 outcome)
    (next_chain (over (length s.mem) Hint d2 outcome) t) d1 t head pieces log →
    ServesHint has head pieces d1 d2 outcome.why s u
by_hint true d1 d2 outcome t head pieces s u log is stays h =
    by_id d1 d2 outcome t head pieces s u (id_length pieces) log is refl stays h
by_hint false d1 d2 outcome t head pieces s u log is stays h =
    by_pieces Hint d1 d2 outcome t head pieces s u log refl is stays h

-- ---- statistics

-- figures are told, and the buffer is held
by_figures : (d1 d2 : Device) (outcome : Outcome) (t : Tally) (head : ℕ) (bytes : List ℕ)
    (s u : Store) (log : List Access) → t.given ≡ false → Still s u log →
    TellsFigures (over (length s.mem) Statistics d2 outcome) d1 t head bytes log →
    HoldsBuffer head bytes d1 d2 outcome s u
by_figures d1 d2 outcome t head bytes s u log given stays h =
    let figures = take (length bytes / 10) h.figures in
    let (s1, told, rest) = subst (λ (l : List Access). Still s u l) h.tells.asks stays in
    let (so, device, still) = ends_so (Steps_to s1 u) t.given
    (over (length s.mem) Statistics d2 outcome) (with_one_taken Statistics d1) (with_held head 0 t)
    None false h.tells.rest given rest h.tells.ends in
    record {
      figures = h.figures;
      are = h.are;
      told = still ∙ told;
      device = device;
      ends = so;
      held = held_so t.given (over (length s.mem) Statistics d2 outcome)
          (with_one_taken Statistics d1) (with_held head 0 t) None false h.tells.rest given
          h.tells.ends;
    }
  where
    Steps_to : Store → Store → List Access → Type 0
    Steps_to a b l = Steps After a l b

    held_so : (given : Bool) (w : Whole) (d : Device) (t : Tally) (why : Option Denial)
        (more : Bool) (log : List Access) → given ≡ false →
        EndsWhere given w d t why more log →
        w.outcome.tally.held ≡ t.held
    held_so true w d t why more log e h = absurd cc
    held_so false w d t why more log e h = ap (λ (o : Outcome). o.tally.held) h.outcome

few_so : (len : ℕ) → len ≤ 1020 → nat_le (len / 10) 102 ≡ true
few_so len le = let some : len / 10 ≤ 102 = omega (arith, le) in grind (arith, nat_tests)

open_buffer : (len : ℕ) (d : Device) (a b : Bool) → is_statistics_length len ≡ a →
    nat_le (len / 10) 102 ≡ b → a ≡ true → b ≡ true → queue_denial Statistics d ≡ None →
    statistics_denial len 102 d ≡ None
open_buffer len d a b e f at bt open_so =
    ap (λ (x : Bool). call_denial Statistics true (x && nat_le (len / 10) 102) d) (e ∙ at)
    ∙ (ap (λ (x : Bool). call_denial Statistics true (true && x) d) (f ∙ bt) ∙ open_so)

length_so : (pieces : List Piece) (n : ℕ) → statistics_length pieces ≡ Ok n →
    is_statistics_length n ≡ true
length_so pieces n e = grind (arith, nat_tests)

by_buffer : (d1 d2 : Device) (outcome : Outcome) (t : Tally) (head : ℕ) (pieces : List Piece)
    (s u : Store) (o : Result ℕ ChainFault) (log : List Access) →
    IsFound Statistics d1 t head pieces s → statistics_length pieces ≡ o → Still s u log →
    CopiesBy o (over (length s.mem) Statistics d2 outcome)
    (next_chain (over (length s.mem) Statistics d2 outcome) t) d1 t head pieces log →
    BufferBy o head pieces d1 d2 outcome s u
by_buffer d1 d2 outcome t head pieces s u (Err f) log is e stays h =
    broken_so Statistics d1 d2 outcome t s u f log is.given stays h
by_buffer d1 d2 outcome t head pieces s u (Ok n) log is e stays h =
    let w = over (length s.mem) Statistics d2 outcome in
    let bytes = bytes_of (byte s) pieces in
    let room : length bytes ≤ 1020 = buffer_room (byte s) pieces n e in
    let on = served_by_bytes (Between s u) (byte s) w t d1 head pieces n log refl e is.parts
    (omega (arith, room)) stays
    (subst (λ (o : Result ℕ ChainFault). CopiesBy o w (next_chain w t) d1 t head pieces log) (sym e)
    h) in
    let long : length bytes ≡ n = buffer_bytes (byte s) pieces n e
    in
    let unrefused : statistics_denial (length bytes) 102 d1 ≡ None = open_buffer (length bytes) d1 _ _
    refl refl
    (subst (λ (m : ℕ). is_statistics_length m ≡ true) (sym long) (length_so pieces n e))
    (few_so (length bytes) room) is.open_so in
    by_figures d1 d2 outcome t head bytes s u on.rest is.given on.still_so
    (subst (λ (o : Option Denial). FiguresBy o w d1 t head bytes on.rest) unrefused on.is)

-- ---- all of them

pub by_kind : (kind : Kind) (d1 d2 : Device) (outcome : Outcome) (t : Tally) (head : ℕ)
    (pieces : List Piece) (s u : Store) (log : List Access) → IsFound kind d1 t head pieces s →
    Still s u log → serves (over (length s.mem) kind d2 outcome) t d1 head pieces log →
    ServesChain kind head pieces d1 d2 outcome s u
by_kind Inflate d1 d2 outcome t head pieces s u log is stays h =
    by_inflate d1 d2 outcome t head pieces s u (request_length pieces) log is refl stays
    (subst (λ (most : ℕ). CopiesBy (request_length_within most pieces)
    (over (length s.mem) Inflate d2 outcome)
    (next_chain (over (length s.mem) Inflate d2 outcome) t) d1 t head pieces log) is.longest h)
by_kind Deflate d1 d2 outcome t head pieces s u log is stays h =
    by_deflate d1 d2 outcome t head pieces s u (request_length pieces) log is refl stays
    (subst (λ (most : ℕ). CopiesBy (request_length_within most pieces)
    (over (length s.mem) Deflate d2 outcome)
    (next_chain (over (length s.mem) Deflate d2 outcome) t) d1 t head pieces log) is.longest h)
by_kind Statistics d1 d2 outcome t head pieces s u log is stays h =
    by_buffer d1 d2 outcome t head pieces s u (statistics_length pieces) log is refl stays h
by_kind Hint d1 d2 outcome t head pieces s u log is stays h =
    by_hint (has_id pieces) d1 d2 outcome t head pieces s u log is stays h
by_kind Report d1 d2 outcome t head pieces s u log is stays h =
    by_pieces Report d1 d2 outcome t head pieces s u log refl is stays h
