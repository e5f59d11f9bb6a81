-- The pages that each call moves.
use Rattle.std.proofs.Common.{◌≡◌, ◌∙◌, sym, ap, arith, refl, ℕ, ◌+◌, ◌-◌, ◌<◌, ◌≤◌, Bool, true}
use Rattle.std.proofs.Common.{false, cond, eqb, ◌||◌, ◌&&◌, List, [], ◌∷◌, ◌++◌, length, take, set}
use Rattle.vb_virtio.specs.Tests.{times, is_in, one_if, pages_where}
use Rattle.vb_virtio.specs.Layout.{reserved_pages}
use Rattle.vb_virtio.proofs.Tables.{count_by-cons, pages_where-passes, is_in-take, is_in-append}
use Rattle.vb_virtio.proofs.Tables.{list_all-at}
use Rattle.std.proofs.Common.{map, count_by, inl, inr}
use Rattle.std.{specs.List.list_all, proofs.lemmas.Bool.{cases_lt, false_from_ne_true, both_ways}}
use Rattle.std.proofs.lemmas.List.{length-take, length-map, get_or-map, get_or_past}
use Rattle.{std.proofs.lemmas.List.Folds.list_any-append, vb_model.proofs.Counts.length-pages_where}
use Rattle.vb_model.specs.Pages.{place_of, placed, is_free, is_used, is_giving, is_lent, is_taking}
use Rattle.vb_model.specs.Pages.{is_stranded}
use Rattle.vb_ram.specs.Pages.{Pages}
use Rattle.vb_model.specs.declared.places.Place.TheVariants.{Reserved, Free, Giving, Lent, Taking}
use Rattle.vb_model.specs.declared.places.Place.{TheVariants.{Stranded, Reporting}, Place}
use Rattle.vb_driver.proofs.RequestTables.{requests_taken}
use Rattle.vb_pages.specs.FreePages.{FreePages}
use Rattle.vb_driver.specs.State.{RequestSide, DriverState, IsQueue, sent_by, IsDriver, tells_host}
use Rattle.vb_driver.{specs.Places.{is_at, marked}, proofs.{Naming.once_append, Placing.or_true}}
use Rattle.vb_driver.proofs.Keeping.{kept_changed, Leaves, not_left, stays, stays_held, there_by}
use Rattle.vb_driver.proofs.{Keeping.{free_marked, free_set, free_stays}, Flags.for_itself}
use Rattle.vb_driver.proofs.Naming.{naming_more, naming_less, named_place, named_once, once_lowest}
use Rattle.vb_driver.specs.Calls.{Posts, lowest_lent, stranded_first, after_reap}
use Rattle.vb_driver.{specs.Areas.{AreFor, flags_of, is_free_at, is_covered}, proofs.Counting.at_is}

-- ---- tests of places

pub lowest_is : (places : List Place) (n : ℕ) (test : Place → Bool) (p : ℕ)
    → is_in p (take n (pages_where test places)) ≡ true → test (place_of places p) ≡ true
lowest_is places n test p h =
    pages_where-passes test places p Reserved (is_in-take p n (pages_where test places) h)

-- ---- a queue after a post, and after a reap

pub posted_queue : {m1 m2 : Pages} {s1 s2 : RequestSide} {base queue size head : ℕ} {pages : List ℕ}
    → IsQueue s1 queue size → Posts m1 m2 s1 s2 base pages head → IsQueue s2 queue size
posted_queue q p = grind arith

pub reaped_queue : {s1 : RequestSide} {queue size : ℕ} (head : ℕ)
    → IsQueue s1 queue size → IsQueue (after_reap s1 head) queue size
reaped_queue {s1} head q = record {
  requests = requests_taken s1 head q.requests;
  number = q.number;
  size = q.size;
}

-- ---- lent pages are requested back

lent_leave : {d : DriverState} (count : ℕ) → IsDriver d → Leaves d (lowest_lent d count) is_lent
lent_leave {d} count kept =
    record { kept = kept; at = λ p here. lowest_is d.places count is_lent p here; high = refl }

pub asked_kept : {m1 m2 : Pages} {d : DriverState} {e2 : RequestSide} {base : ℕ}
    (count : ℕ) {head : ℕ} → IsDriver d → Posts m1 m2 d.deflate e2 base (lowest_lent d count) head
    → IsDriver (record d { places = placed (lowest_lent d count) Taking d.places; deflate = e2 })
asked_kept {d} {e2} count {head} kept posts = let pages = lowest_lent d count in
    let leaves = lent_leave count kept in
    let small : head < length d.deflate.sent =
    omega (arith, posts.small, kept.deflate.requests.buffers) in
    let sent : e2.sent
    ≡ set d.deflate.sent head pages = ap (λ (s : RequestSide). s.sent) posts.state in
    kept_changed (record {
      leaves = leaves;
      inflate = kept.inflate;
      deflate = posted_queue kept.deflate posts;
      giving = stays leaves Taking Giving refl kept.giving;
      taking = λ told p. rw sent (naming_more p head pages d.deflate.sent is_taking Taking (place_of
          d.places p) small (kept.taking told p) (λ here. not_left is_lent Taking (place_of
          d.places p) refl (leaves.at p here)) (once_lowest p count is_lent d.places) refl);
      report = kept.report;
      reporting = stays leaves Taking Reporting refl kept.reporting;
      free = free_stays leaves Taking refl refl;
      same = for_itself;
      used = stays_held leaves Taking refl;
    })

-- where the host isn't told first they are free at once
pub asked_freed : {m1 m2 : Pages} {d : DriverState}
    {areas2 : FreePages} {e2 : RequestSide} {base : ℕ} (count : ℕ) {head : ℕ} → IsDriver d
    → tells_host d ≡ false → flags_of areas2 ≡ marked (lowest_lent d count) true (flags_of d.areas)
    → AreFor d.areas areas2 → Posts m1 m2 d.deflate e2 base (lowest_lent d count) head → IsDriver
    (record d { places = placed (lowest_lent d count) Free d.places; areas = areas2; deflate = e2 })
asked_freed {d} {areas2} count kept untold given same posts = let pages = lowest_lent d count in
    let leaves = lent_leave count kept in
    kept_changed (record {
      leaves = leaves;
      inflate = kept.inflate;
      deflate = posted_queue kept.deflate posts;
      giving = stays leaves Free Giving refl kept.giving;
      taking = λ told p. absurd (let wrong : true ≡ false = sym told ∙ untold in cc);
      report = kept.report;
      reporting = stays leaves Free Reporting refl kept.reporting;
      free = free_set areas2 pages Free kept refl given;
      same = same;
      used = stays_held leaves Free refl;
    })

-- a deflate whose pages stay where they are is reaped
pub forgotten_kept : {d : DriverState} (head : ℕ) → head < 16 → IsDriver d
    → tells_host d ≡ false → IsDriver (record d { deflate = after_reap d.deflate head })
forgotten_kept head lt kept untold = record {
  table = kept.table;
  least = kept.least;
  most = kept.most;
  size = kept.size;
  inflate = kept.inflate;
  deflate = reaped_queue head kept.deflate;
  statistics = kept.statistics;
  report = kept.report;
  giving = kept.giving;
  taking = λ told p. absurd (let wrong : true ≡ false = sym told ∙ untold in cc);
  reporting = kept.reporting;
  free = kept.free;
  processors = kept.processors;
  set_aside = kept.set_aside;
  used = kept.used;
  reserved = kept.reserved;
}

-- ---- stranded and free pages are offered

pub stranded_apart : (d : DriverState) (count p : ℕ) (others : List ℕ)
    → list_all (λ page. is_free (place_of d.places page)) others ≡ true
    → is_in p (stranded_first d count) ≡ true → is_in p others ≡ false
stranded_apart d count p others free here = grind (arith, list_all-at, at_is, lowest_is)

pub offered_kept : {m1 m2 : Pages} {d : DriverState} {areas2 : FreePages}
    {i2 : RequestSide} {base : ℕ} (count : ℕ) {head : ℕ} (others : List ℕ) → IsDriver d
    → list_all (λ page. is_free (place_of d.places page)) others ≡ true
    → ((p : ℕ) → times p others ≤ 1) → flags_of areas2 ≡ marked others false (flags_of d.areas)
    → AreFor d.areas areas2 → Posts m1 m2 d.inflate i2 base (stranded_first d count ++ others) head
    → IsDriver (record d {
      places = placed (stranded_first d count ++ others) Giving d.places;
      inflate = i2;
      areas = areas2;
    })
offered_kept {d} {i2} count {head} others kept free once taken same posts =
    let first = stranded_first d count in
    let pages = first ++ others in
    let offered : Place → Bool = λ v. is_stranded v || is_free v in
    let leaves : Leaves d pages offered =
    search (arith, is_in-append, lowest_is, list_all-at, or_true) in
    let small : head < length d.inflate.sent =
    omega (arith, posts.small, kept.inflate.requests.buffers) in
    let sent : i2.sent ≡ set d.inflate.sent head pages =
    ap (λ (s : RequestSide). s.sent) posts.state in
    let once_all : (p : ℕ) → times p pages ≤ 1 = λ p. once_append p first others
    (once_lowest p count is_stranded d.places) (once p) (stranded_apart d count p others free) in
    kept_changed (record {
      leaves = leaves;
      inflate = posted_queue kept.inflate posts;
      deflate = kept.deflate;
      giving = λ p. rw sent (naming_more p head pages d.inflate.sent is_giving Giving
          (place_of d.places p) small (kept.giving p) (λ here. not_left offered Giving
          (place_of d.places p) refl (leaves.at p here)) (once_all p) refl);
      taking = λ told. stays leaves Giving Taking refl (kept.taking told);
      report = kept.report;
      reporting = stays leaves Giving Reporting refl kept.reporting;
      free = taken ∙ (ap (marked others false) kept.free ∙ free_marked d.places pages others
          Giving false (λ p place is. agree p place is (is_in p others) (is_in p first) refl refl));
      same = same;
      used = stays_held leaves Giving refl;
    })
  where
    in_pages : (p : ℕ) → is_in p (stranded_first d count ++ others)
        ≡ (is_in p (stranded_first d count) || is_in p others)
    in_pages p = list_any-append (λ m. eqb m p) (stranded_first d count) others

    agree : (p : ℕ) (place : Place) → place ≡ place_of d.places p → (o f : Bool) → is_in p others
        ≡ o → is_in p (stranded_first d count) ≡ f → cond (is_in p others) false (is_free place)
        ≡ is_free (cond (is_in p (stranded_first d count ++ others)) Giving place)
    agree p place is true f e g = ap (λ v. cond v false (is_free place)) e
        ∙ sym (ap (λ v. is_free (cond v Giving place)) (in_pages p ∙ (ap (λ v. is_in p
        (stranded_first d count) || v) e ∙ or_true (is_in p (stranded_first d count)))))
    agree p place is false true e g = ap (λ v. cond v false (is_free place)) e ∙ (ap is_free
        (is ∙ at_is Stranded (lowest_is d.places count is_stranded p g)) ∙ sym
        (ap (λ v. is_free (cond v Giving place)) (in_pages p ∙ ap (λ v. v || is_in p others) g)))
    agree p place is false false e g = ap (λ v. cond v false (is_free place)) e ∙ sym (ap
        (λ v. is_free (cond v Giving place)) (in_pages p ∙ (ap (λ v. v || is_in p others) g ∙ e)))

-- ---- used requests are reaped

pub lent_kept : {d : DriverState} (head : ℕ) → head < 16 → IsDriver d → IsDriver (record d {
  places = placed (sent_by d.inflate head) Lent d.places;
  inflate = after_reap d.inflate head;
})
lent_kept {d} head lt kept = let pages = sent_by d.inflate head in
    let small : head < length d.inflate.sent = omega (arith, kept.inflate.requests.buffers) in
    let leaves : Leaves d pages is_giving = record {
      kept = kept;
      at = λ p here. named_place p head d.inflate.sent is_giving (place_of d.places p) small
          (kept.giving p) here;
      high = refl;
    } in
    kept_changed (record {
      leaves = leaves;
      inflate = reaped_queue head kept.inflate;
      deflate = kept.deflate;
      giving = λ p. naming_less p head d.inflate.sent is_giving Lent (place_of d.places p) small
          (kept.giving p);
      taking = λ told. stays leaves Lent Taking refl (kept.taking told);
      report = kept.report;
      reporting = stays leaves Lent Reporting refl kept.reporting;
      free = free_stays leaves Lent refl refl;
      same = for_itself;
      used = stays_held leaves Lent refl;
    })

pub freed_kept : {d : DriverState} {areas2 : FreePages} (head : ℕ) → head < 16 → IsDriver d
    → tells_host d ≡ true
    → flags_of areas2 ≡ marked (sent_by d.deflate head) true (flags_of d.areas)
    → AreFor d.areas areas2 → IsDriver (record d {
      places = placed (sent_by d.deflate head) Free d.places;
      deflate = after_reap d.deflate head;
      areas = areas2;
    })
freed_kept {d} {areas2} head lt kept tells given same = let pages = sent_by d.deflate head in
    let small : head < length d.deflate.sent = omega (arith, kept.deflate.requests.buffers) in
    let leaves : Leaves d pages is_taking = record {
      kept = kept;
      at = λ p here. named_place p head d.deflate.sent is_taking (place_of d.places p) small
          (kept.taking tells p) here;
      high = refl;
    } in
    kept_changed (record {
      leaves = leaves;
      inflate = kept.inflate;
      deflate = reaped_queue head kept.deflate;
      giving = stays leaves Free Giving refl kept.giving;
      taking = λ told p. naming_less p head d.deflate.sent is_taking Free
          (place_of d.places p) small (kept.taking told p);
      report = kept.report;
      reporting = stays leaves Free Reporting refl kept.reporting;
      free = free_set areas2 pages Free kept refl given;
      same = same;
      used = stays_held leaves Free refl;
    })

-- ---- counts of what is moved

pub count_map : (test : Place → Bool) (xs : List Place)
    → count_by (λ f. f) (map test xs) ≡ count_by test xs
count_map test [] = refl
count_map test (x ∷ xs) = count_by-cons (λ f. f) (test x) (map test xs)
    ∙ (ap (λ n. one_if (test x) + n) (count_map test xs) ∙ sym (count_by-cons test x xs))

-- enough pages are free
pub others_there : (d : DriverState) (count : ℕ) {len : ℕ} {free : List Bool}
    → free ≡ map is_free d.places → len ≡ length (stranded_first d count)
    → count ≤ count_by is_stranded d.places + count_by is_free d.places
    → count - len ≤ count_by (λ f. f) free
others_there d count is len_is there = grind (arith, count_map, length-pages_where, length-take)

pub first_few : (d : DriverState) (count : ℕ) → length (stranded_first d count) ≤ count
first_few d count = omega (arith, length-take count (pages_where is_stranded d.places))

pub list_all_same : (f h : ℕ → Bool) (xs : List ℕ) → ((p : ℕ) → f p ≡ h p)
    → list_all f xs ≡ list_all h xs
list_all_same f h [] same = refl
list_all_same f h (x ∷ xs) same =
    ap (λ v. v && list_all f xs) (same x) ∙ ap (λ v. h x && v) (list_all_same f h xs same)

pub free_is_place : (places : List Place) {free : List Bool} (p : ℕ)
    → free ≡ map is_free places → is_free_at free p ≡ is_free (place_of places p)
free_is_place places p is = grind (arith, cases_lt, get_or-map, get_or_past, length-map)

pub others_free : (d : DriverState) {free : List Bool} (others : List ℕ)
    → free ≡ map is_free d.places → list_all (is_free_at free) others ≡ true
    → list_all (λ page. is_free (place_of d.places page)) others ≡ true
others_free d others is all = grind (arith, list_all_same, free_is_place)

pub offered_inside : (d : DriverState) (count p : ℕ) (others : List ℕ)
    → list_all (λ page. is_free (place_of d.places page)) others ≡ true
    → is_in p (stranded_first d count ++ others) ≡ true → p < length d.places
offered_inside d count p others free here =
    elim (is_in-append p (stranded_first d count) others here) [
      | inl f ↦ there_by d.places p is_stranded refl (lowest_is d.places count is_stranded p f)
      | inr o ↦ there_by d.places p is_free refl
          (list_all-at (λ page. is_free (place_of d.places page)) others p free o)
    ]

-- ---- the pages of a request that is out

pub lent_inside : {d : DriverState} (head p : ℕ)
    → head < 16 → IsDriver d → is_in p (sent_by d.inflate head) ≡ true → p < length d.places
lent_inside {d} head p lt kept here = there_by d.places p is_giving refl
    (named_place p head d.inflate.sent is_giving (place_of d.places p)
    (omega (arith, kept.inflate.requests.buffers)) (kept.giving p) here)

pub freed_taking : {d : DriverState} (head p : ℕ) → head < 16 → IsDriver d
    → tells_host d ≡ true → is_in p (sent_by d.deflate head) ≡ true → place_of d.places p ≡ Taking
freed_taking {d} head p lt kept told here = at_is Taking
    (named_place p head d.deflate.sent is_taking (place_of d.places p)
    (omega (arith, kept.deflate.requests.buffers)) (kept.taking told p) here)

pub freed_once : {d : DriverState} (head p : ℕ)
    → head < 16 → IsDriver d → tells_host d ≡ true → times p (sent_by d.deflate head) ≤ 1
freed_once {d} head p lt kept told = named_once p head d.deflate.sent is_taking
    (place_of d.places p) (omega (arith, kept.deflate.requests.buffers)) (kept.taking told p)

-- ---- a page that isn't used, free or reserved may be given back

pub record IsOut (d : DriverState) (p : ℕ) : Type 0 where
  pub unreserved : d.areas.reserved ≤ p
  pub inside : p < length (flags_of d.areas)
  pub taken : is_free_at (flags_of d.areas) p ≡ false
  pub uncovered : is_covered p d.held ≡ false
  pub there : p < length d.places

pub is_out : {d : DriverState} {p : ℕ} (place : Place) → IsDriver d → is_at Reserved place ≡ false
    → is_free place ≡ false → is_used place ≡ false → place_of d.places p ≡ place → IsOut d p
is_out {d} {p} place kept unreserved unfree unused is =
    let not_reserved : is_at Reserved (place_of d.places p) ≡ false =
    ap (is_at Reserved) is ∙ unreserved in
    let there : p < length d.places = search (arith, cases_lt, length, both_ways, get_or_past) in record {
      unreserved = elim (cases_lt p (reserved_pages d.queue_size)) [
        | inl low ↦ absurd (both_ways (is_at Reserved (place_of d.places p)) not_reserved
            (ap (is_at Reserved) (kept.reserved p low)))
        | inr far ↦ omega (arith, kept.set_aside)
      ];
      inside = omega (arith, ap length kept.free, length-map d.places is_free);
      taken = free_is_place d.places p kept.free ∙ (ap is_free is ∙ unfree);
      uncovered = false_from_ne_true (is_covered p d.held) (λ e. both_ways
          (is_used (place_of d.places p)) (ap is_used is ∙ unused) (ap is_used (kept.used p e)));
      there = there;
    }
