-- How often a page is in runs.
use Rattle.std.proofs.Common.{◌≡◌, ◌∙◌, ℕ, zero, suc, ◌+◌, ◌-◌, ◌<◌, List, [], ◌∷◌, ◌++◌, refl}
use Rattle.std.proofs.Common.{length, get_or, set, take, sym, ap, arith, subst, append_assoc, ◌≤◌}
use Rattle.std.{proofs.lemmas.Bool.eqb-true, specs.List.range_with_len}
use Rattle.std.proofs.lemmas.{Grind.{take-set_at, get_or-set_at}, List.{append-nil, take_more}}
use Rattle.std.{proofs.Common.length-append, specs.Prelude.{◌==◌, Some, map, ◌≢◌, ◌%◌}}
use Rattle.vb_virtio.specs.Tests.{one_if, times}
use Rattle.vb_virtio.proofs.Distinct.{times-append, times-cons}
use Rattle.vb_chain.specs.declared.pieces.Piece.{Piece}
use Rattle.vb_request.specs.Report.{pages_of_piece, pages_of_pieces}
use Rattle.vb_core.specs.Runs.{pages_of_run, pages_of_runs, IsApartFrom, IsApart, joined, Grows}
use Rattle.vb_core.specs.{Report.run_of, declared.runs.{Ends.Ends, Run.Run}}
use Rattle.vb_core.specs.{RunEnds.{AreEndsOf, AreEnds}, Runs.{one_page, IsPart, Tell}}

pub times-one : (p x : ℕ) → times p (x ∷ []) ≡ one_if (x == p)
times-one p x = let e = times-cons p x [] in omega (arith, e)

-- one page more after those of a range
times_up : (p first count : ℕ) → times p (range_with_len first (suc count)) ≡
    times p (range_with_len first count) + one_if ((first + count) == p)
times_up p first zero = grind arith
times_up p first (suc count) = grind (
  arith,
  times_up p (first + 1) count,
  times-cons p first (range_with_len (first + 1) (suc count)),
  times-cons p first (range_with_len (first + 1) count),
)

pub joined_up : (p page : ℕ) (run new : Run) → run.first + run.count ≡ page →
    new.first ≡ run.first → new.count ≡ run.count + 1 →
    times p (pages_of_run new) ≡ times p (pages_of_run run) + one_if (page == p)
joined_up p page run new e f g = grind (arith, times_up)

pub joined_down : (p page : ℕ) (run new : Run) → page + 1 ≡ run.first → new.first ≡ page → new.count
    ≡ run.count + 1 → times p (pages_of_run new) ≡ times p (pages_of_run run) + one_if (page == p)
joined_down p page run new e f g =
    grind (arith, times-cons p page (range_with_len (page + 1) run.count))

-- ---- a run that takes a number in

-- at its end, and at its front
abbrev pub longer : Run → Run
longer run = record { first = run.first; count = run.count + 1 }

abbrev pub longer_from : ℕ → Run → Run
longer_from n run = record { first = n; count = run.count + 1 }

-- it has one page more, and that is the number
record HasOneMore (old new : Run) (n : ℕ) : Type 0 where
  pages : (p : ℕ) → times p (pages_of_run new) ≡ times p (pages_of_run old) + one_if (n == p)
  count : new.count ≡ old.count + 1

one_more : (old new : Run) (n : ℕ) → joined old n ≡ Some new → HasOneMore old new n
one_more old new n e = grind (arith, eqb-true, joined_up, joined_down)

-- one that takes numbers in has their pages more
grown_times : (p : ℕ) (old new : Run) (ns : List ℕ) → Grows old ns new →
    times p (pages_of_run new) ≡ times p (pages_of_run old) + times p ns
grown_times p old new [] g =
    let same : times p (pages_of_run new) ≡ times p (pages_of_run old) =
    ap (λ (r : Run). times p (pages_of_run r)) g in omega (arith, same)
grown_times p old new (n ∷ ns) g =
    grind (arith, one_more old g.0 n g.1.0, grown_times p g.0 new ns g.1.1, times-cons p n ns)

grown_count : (old new : Run) (ns : List ℕ) → Grows old ns new → new.count ≡ old.count + length ns
grown_count old new [] g =
    let same : new.count ≡ old.count = ap (λ (r : Run). r.count) g in omega (arith, same)
grown_count old new (n ∷ ns) g = grind (arith, grown_count g.0 new ns g.1.1)

-- and takes one more in
grown_more : (old mid new : Run) (ns : List ℕ) (n : ℕ) → Grows old ns mid →
    joined mid n ≡ Some new → Grows old (ns ++ n ∷ []) new
grown_more old mid new [] n g e = (new, (subst (λ (r : Run). joined r n ≡ Some new) g e, refl))
grown_more old mid new (m ∷ ns) n g e = (g.0, (g.1.0, grown_more g.0 mid new ns n g.1.1 e))

-- a part has the pages of its run, in some order
part_pages : (run : Run) (ns part rest : List ℕ) (p : ℕ) → IsPart run ns part rest →
    times p part ≡ times p (pages_of_run run)
part_pages run ns part rest p is = let n : ℕ = is.grows.0 in
    let more : List ℕ = is.grows.1.0 in
    grind (arith, times-cons p n more, grown_times p (one_page n) run more is.grows.1.1.1)

part_size : (run : Run) (ns part rest : List ℕ) → IsPart run ns part rest → length part ≡ run.count
part_size run ns part rest is = grind (arith, grown_count)

part_some : (run : Run) (ns part rest : List ℕ) → IsPart run ns part rest → 0 < run.count
part_some run ns part rest is =
    omega (arith, grown_count (one_page is.grows.0) run is.grows.1.0 is.grows.1.1.1)

-- ---- the numbers that runs tell

-- how often a number is among them
pub tell_times : (runs : List Run) (ns : List ℕ) → Tell runs ns → (p : ℕ) →
    times p (pages_of_runs runs) ≡ times p ns
tell_times [] ns t p = ap (times p) (sym t)
tell_times (run ∷ runs) ns t p = let part : List ℕ = t.0 in
    let rest : List ℕ = t.1.0 in
    let is : IsPart run ns part rest = t.1.1.0 in
    grind (
      arith,
      times-append p part rest,
      times-append p (pages_of_run run) (pages_of_runs runs),
      part_pages run ns part rest p is,
      tell_times runs rest t.1.1.1.1 p,
    )

-- how long a list is that begins with a run's part
part_length : (run : Run) (ns part rest : List ℕ) → IsPart run ns part rest →
    length ns ≡ run.count + length rest
part_length run ns part rest is =
    grind (arith, length-append part rest, part_size run ns part rest is)

-- runs tell some numbers, as many as the last of them has at least
some_told : (first : List Run) (last : Run) (ns : List ℕ) → Tell (first ++ last ∷ []) ns →
    0 < length ns
some_told [] last ns t = let is : IsPart last ns t.0 t.1.0 = t.1.1.0 in
    omega (arith, part_length last ns t.0 t.1.0 is, part_some last ns t.0 t.1.0 is)
some_told (run ∷ first) last ns t = let is : IsPart run ns t.0 t.1.0 = t.1.1.0 in
    omega (arith, part_length run ns t.0 t.1.0 is, part_some run ns t.0 t.1.0 is)

last_few : (first : List Run) (last : Run) (ns : List ℕ) → Tell (first ++ last ∷ []) ns →
    last.count ≤ length ns
last_few [] last ns t =
    let is : IsPart last ns t.0 t.1.0 = t.1.1.0 in omega (arith, part_length last ns t.0 t.1.0 is)
last_few (run ∷ first) last ns t = let is : IsPart run ns t.0 t.1.0 = t.1.1.0 in
    let more : last.count ≤ length t.1.0 = last_few first last t.1.0 t.1.1.1.1 in
    omega (arith, part_length run ns t.0 t.1.0 is, more)

apart_more : (run : Run) (rest : List ℕ) (n : ℕ) → 0 < length rest → IsApart run rest →
    IsApart run (rest ++ n ∷ [])
apart_more run [] n lt a = absurd (omega (arith, lt))
apart_more run (m ∷ rest) n lt a = a

part_more : (run : Run) (ns part rest : List ℕ) (n : ℕ) → IsPart run ns part rest →
    IsPart run (ns ++ n ∷ []) part (rest ++ n ∷ [])
part_more run ns part rest n is = grind (arith, append_assoc)

-- the last run takes one more number in
tell_last : (first : List Run) (old new : Run) (ns : List ℕ) (n : ℕ) → joined old n ≡ Some new
    → Tell (first ++ old ∷ []) ns → Tell (first ++ new ∷ []) (ns ++ n ∷ [])
tell_last [] old new ns n more t = let part : List ℕ = t.0 in
    let rest : List ℕ = t.1.0 in
    let is : IsPart old ns part rest = t.1.1.0 in
    let none : rest ≡ [] = t.1.1.1.1 in
    let whole : ns ++ n ∷ [] ≡ (part ++ n ∷ []) ++ [] = ap (λ (xs : List ℕ). xs ++ n ∷ [])
    (is.whole ∙ (ap (λ (xs : List ℕ). part ++ xs) none ∙ append-nil part))
    ∙ sym (append-nil (part ++ n ∷ [])) in grind (arith, grown_more)
tell_last (run ∷ first) old new ns n more t = let part : List ℕ = t.0 in
    let rest : List ℕ = t.1.0 in
    let is : IsPart run ns part rest = t.1.1.0 in
    let behind : Tell (first ++ old ∷ []) rest = t.1.1.1.1 in
    let away : IsApart run (rest ++ n ∷ []) =
    apart_more run rest n (some_told first old rest behind) t.1.1.1.0 in
    grind (arith, part_more run ns part rest n is, tell_last first old new rest n more behind)

-- a run of one number tells it
alone_tells : (n : ℕ) → Tell (one_page n ∷ []) (n ∷ [])
alone_tells n =
    let is : IsPart (one_page n) (n ∷ []) (n ∷ []) [] =
    record { whole = refl; grows = (n, ([], (refl, refl))) } in (n ∷ [], ([], (is, (tt, refl))))

-- one more run, of one number that doesn't join the last one
tell_new : (first : List Run) (last : Run) (ns : List ℕ) (n : ℕ) → IsApartFrom last n
    → Tell (first ++ last ∷ []) ns → Tell ((first ++ last ∷ []) ++ one_page n ∷ []) (ns ++ n ∷ [])
tell_new [] last ns n away t = grind (arith, append-nil, alone_tells)
tell_new (run ∷ first) last ns n away t = let part : List ℕ = t.0 in
    let rest : List ℕ = t.1.0 in
    let is : IsPart run ns part rest = t.1.1.0 in
    let behind : Tell (first ++ last ∷ []) rest = t.1.1.1.1 in
    let apart : IsApart run (rest ++ n ∷ []) =
    apart_more run rest n (some_told first last rest behind) t.1.1.1.0 in
    grind (arith, part_more run ns part rest n is, tell_new first last rest n away behind)

-- ---- the first runs of a list

first_are : (used : ℕ) (runs : List Run) (d : Run) → 0 < used → used ≤ length runs →
    take used runs ≡ take (used - 1) runs ++ get_or runs (used - 1) d ∷ []
first_are used runs d some few = grind (arith, take_more)

-- the last of them takes a page in
pub last_joined : (page used : ℕ) (runs : List Run) (d new : Run) → 0 < used
    → used ≤ length runs → joined (get_or runs (used - 1) d) page ≡ Some new → (ns : List ℕ)
    → Tell (take used runs) ns → Tell (take used (set runs (used - 1) new)) (ns ++ page ∷ [])
last_joined page used runs d new some few joined ns t =
    grind (arith, take-set_at, tell_last, first_are)

-- none of them takes it in
last_apart : (page used : ℕ) (runs : List Run) (d : Run) → 0 < used → used ≤ length runs →
    IsApartFrom (get_or runs (used - 1) d) page → (ns : List ℕ) → Tell (take used runs) ns →
    Tell (take used runs ++ one_page page ∷ []) (ns ++ page ∷ [])
last_apart page used runs d some few apart ns t =
    grind (arith, first_are used runs d some few, tell_new)

none_apart : (page used : ℕ) (runs : List Run) → used ≡ 0 → (ns : List ℕ)
    → Tell (take used runs) ns → Tell (take used runs ++ one_page page ∷ []) (ns ++ page ∷ [])
none_apart page used runs e ns t = grind (arith, alone_tells)

-- a run of one page is put after them
pub run_added : (used : ℕ) (runs now : List Run) (new : Run) (ms : List ℕ) → now ≡ runs →
    used < length runs → Tell (take used runs ++ new ∷ []) ms →
    Tell (take (used + 1) (set now used new)) ms
run_added used runs now new ms same lt t = grind (arith, take-set_at)

-- the runs of whole pieces are their pages
pub runs_of_pieces : (pieces : List Piece) →
    pages_of_runs (map run_of pieces) ≡ pages_of_pieces pieces
runs_of_pieces [] = refl
runs_of_pieces (piece ∷ pieces) =
    ap (λ (xs : List ℕ). pages_of_piece piece ++ xs) (runs_of_pieces pieces)

-- ---- the pages that join the last run

last_count : (used : ℕ) (runs : List Run) (d : Run) (ns : List ℕ) → 0 < used →
    used ≤ length runs → Tell (take used runs) ns → (get_or runs (used - 1) d).count ≤ length ns
last_count used runs d ns some few t = last_few (take (used - 1) runs) (get_or runs (used - 1) d) ns
    (subst (λ (rs : List Run). Tell rs ns) (first_are used runs d some few) t)

ends_of_last : (ends : Ends) (used : ℕ) (runs : List Run) (new : Run) → 0 < used →
    used ≤ length runs → AreEndsOf ends new → AreEnds ends used (set runs (used - 1) new)
ends_of_last ends used runs new some few are = grind (arith, get_or-set_at)

-- it takes one of them in
pub last_longer : (page used : ℕ) (runs : List Run) (d new : Run) (now : Ends)
    → 0 < used → used ≤ length runs → ((get_or runs (used - 1) d).count < 4294967295
    → (joined (get_or runs (used - 1) d) page ≡ Some new) × AreEndsOf now new)
    → (ns : List ℕ) → length ns < 4294967295
    → Tell (take used runs) ns → Tell (take used (set runs (used - 1) new)) (ns ++ page ∷ [])
    × AreEnds now used (set runs (used - 1) new)
last_longer page used runs d new now some few joins ns short t =
    let count = last_count used runs d ns some few t in
    let h = joins (omega (arith, count, short)) in
    (last_joined page used runs d new some few h.0 ns t, ends_of_last now used runs new some few h.1)

-- a page that is one of them joins it, and others join it then
pub joins_behind : (r : Run) (page : ℕ) (ends : Ends) → ends.behind ≡ page → AreEndsOf ends r →
    r.count < 4294967295 →
    (joined r page ≡ Some (record { first = r.first; count = (r.count + 1) % 4294967296 }))
    × AreEndsOf (record { behind = ends.behind + 1; before = ends.before })
    (record { first = r.first; count = (r.count + 1) % 4294967296 })
joins_behind r page ends e are short = grind arith

pub joins_before : (r : Run) (page number : ℕ) (ends : Ends) → number ≡ page → page < 4294967296
    → ends.before ≡ page → AreEndsOf ends r → r.count < 4294967295 → (joined r page ≡ Some
    (record { first = page; count = (r.count + 1) % 4294967296 })) × AreEndsOf (record {
      behind = ends.behind;
      before = (number + 18446744073709551615) % 18446744073709551616;
    }) (record { first = page; count = (r.count + 1) % 4294967296 })
joins_before r page number ends same fits e are short =
    let small : r.count + 1 ≡ (r.count + 1) % 4294967296 = omega (arith, short) in
    let first : page + 1 ≡ r.first = (are.before page fits).0 e in grind arith

-- one that is none of them doesn't
pub no_end : (page used : ℕ) (runs : List Run) (d : Run) (ends : Ends) → AreEnds ends used runs →
    used ≤ length runs → page < 4294967296 → ends.behind ≢ page → ends.before ≢ page → (ns : List ℕ)
    → Tell (take used runs) ns → Tell (take used runs ++ one_page page ∷ []) (ns ++ page ∷ [])
no_end page zero runs d ends are few fits behind before ns t = none_apart page zero runs refl ns t
no_end page (suc n) runs d ends are few fits behind before ns t =
    let of = are.some d (omega arith) in
    last_apart page (suc n) runs d (omega arith) few
    (λ e. behind (of.behind ∙ sym e), λ e. before ((of.before page fits).1 e)) ns t

pub some_behind : (page used : ℕ) (runs : List Run) (ends : Ends) → AreEnds ends used runs →
    page < 4294967296 → ends.behind ≡ page → 0 < used
some_behind page zero runs ends are fits e =
    let none = (are.none refl).0 in absurd (omega (arith, none, fits, e))
some_behind page (suc n) runs ends are fits e = omega arith

pub some_before : (page used : ℕ) (runs : List Run) (ends : Ends) → AreEnds ends used runs →
    page < 4294967296 → ends.before ≡ page → 0 < used
some_before page zero runs ends are fits e =
    let none = (are.none refl).1 in absurd (omega (arith, none, fits, e))
some_before page (suc n) runs ends are fits e = omega arith

pub ends_of_new : (ends : Ends) (used : ℕ) (runs : List Run) (new : Run) → used < length runs →
    AreEndsOf ends new → AreEnds ends (used + 1) (set runs used new)
ends_of_new ends used runs new room are = grind (arith, get_or-set_at)
