-- What is gathered from a history, an entry at a time.
use Rattle.std.proofs.Common.{List, None, Some, [], add-one, ap, arith, drop, false, get_or, length}
use Rattle.std.proofs.Common.{refl, slice_get, suc, sym, take, take-suc, true, zero, ℕ, ◌++◌, ◌+◌}
use Rattle.std.proofs.{Common.{◌<◌, ◌∙◌, ◌∷◌, ◌≡◌, ◌≤◌}, lemmas.List.{append-nil, append_assoc}}
use Rattle.std.proofs.lemmas.List.{take-append-drop, Elements.{filter-append, filter_map-append}}
use Rattle.std.proofs.lemmas.{List.Folds.list_all-append, Option.slice_get-map}
use Rattle.std.specs.{List.list_all, Prelude.{Option, filter_map, option_map}}
use Rattle.vb_model.specs.{Guest.frame_of, GuestRun.Entry, declared.calls.Actor.Actor}
use Rattle.vb_model.specs.declared.{calls.Actor.TheVariants.Balancer, replies.Reply.Reply}
use Rattle.vb_run.proofs.{Histories.entries_other, Lists.{map_more, passes_at, take_next}}
use Rattle.vb_run.specs.{Entries.{actor_of, entries_by, is_same}, Notes.{history_of, noted_entry}}
use Rattle.vb_run.specs.{Notes.{replies_in, reply_in}, Rounds.{Rounded, entries_of_round}}
use Rattle.vb_run.specs.{Rounds.{is_of_round, round_entries}, declared.note.Note.Note}

pub reply_some : (cpu : ℕ) (notes : List Note) (n : ℕ) (d : Note) (r : Reply)
    → n < length notes → reply_in cpu (get_or notes n d) ≡ Some r
    → replies_in cpu (take (n + 1) notes) ≡ replies_in cpu (take n notes) ++ r ∷ []
reply_some cpu notes n d r within is =
    grind (
      arith,
      add-one n,
      take-suc notes n d within,
      filter_map-append (reply_in cpu) (take n notes) (get_or notes n d ∷ []),
    )

pub reply_none : (cpu : ℕ) (notes : List Note) (n : ℕ) (d : Note) → n < length notes
    → reply_in cpu (get_or notes n d) ≡ None
    → replies_in cpu (take (n + 1) notes) ≡ replies_in cpu (take n notes)
reply_none cpu notes n d within is =
    grind (
      arith,
      add-one n,
      take-suc notes n d within,
      filter_map-append (reply_in cpu) (take n notes) (get_or notes n d ∷ []),
      append-nil (replies_in cpu (take n notes)),
    )

-- a note of somebody else is none of the balancer's
pub entries_none : (guest : ℕ) (notes : List Note) (n : ℕ) (d : Note) → n < length notes
    → is_same Balancer (actor_of (noted_entry guest [] (get_or notes n d))) ≡ false
    → entries_by Balancer (history_of guest [] (take (n + 1) notes))
    ≡ entries_by Balancer (history_of guest [] (take n notes))
entries_none guest notes n d within is =
    ap (entries_by Balancer) (map_more (noted_entry guest []) notes n d within)
    ∙ entries_other Balancer (history_of guest [] (take n notes))
    (noted_entry guest [] (get_or notes n d)) is

round_push : (floor guest : ℕ) (rs : List Rounded) (r : Rounded) → round_entries floor guest (rs
    ++ r ∷ []) ≡ round_entries floor guest rs ++ entries_of_round floor guest r
round_push floor guest [] r = append-nil (entries_of_round floor guest r)
round_push floor guest (x ∷ rs) r = grind (arith, round_push floor guest rs r)

pub rounds_next : (floor guest : ℕ) (rs : List Rounded) (n : ℕ) (d : Rounded) → n < length rs
    → round_entries floor guest (take (n + 1) rs)
    ≡ round_entries floor guest (take n rs) ++ entries_of_round floor guest (get_or rs n d)
rounds_next floor guest rs n d h =
    grind (arith, add-one n, take-suc rs n d h, round_push floor guest (take n rs) (get_or rs n d))

pub frames_some : (frames : List (Option ℕ)) (n : ℕ) (frame : ℕ) → n < length frames
    → frame_of frames n ≡ Some frame
    → filter_map (λ f. f) (take (n + 1) frames) ≡ filter_map (λ f. f) (take n frames) ++ frame ∷ []
frames_some frames n frame within is = grind (
  arith,
  take-suc frames n None within,
  filter_map-append (λ f. f) (take n frames) (frame_of frames n ∷ []),
)

pub frames_none : (frames : List (Option ℕ)) (n : ℕ) → n < length frames → frame_of frames n ≡ None
    → filter_map (λ f. f) (take (n + 1) frames) ≡ filter_map (λ f. f) (take n frames)
frames_none frames n within is = grind (
  arith,
  take-suc frames n None within,
  filter_map-append (λ f. f) (take n frames) (frame_of frames n ∷ []),
  append-nil (filter_map (λ f. f) (take n frames)),
)

-- ---- the balancer's entries, and those that the rounds make

-- what comes after the first k of a list, if it is known how it goes on there
at_cut : {X : Type 0} (xs : List X) (k : ℕ) (e : X) (more : List X) → k ≤ length xs
    → xs ≡ take k xs ++ e ∷ more → slice_get xs k ≡ Some e
at_cut [] zero e more le is = cc
at_cut [] (suc k) e more le is = absurd (omega (arith, le))
at_cut (x ∷ xs) zero e more le is = cc
at_cut (x ∷ xs) (suc k) e more le is =
    let rest : xs ≡ take k xs ++ e ∷ more = cc in at_cut xs k e more (omega (arith, le)) rest

-- what an actor made, from one of its entries on
entries_on : (a : Actor) (h : List Entry) (n : ℕ) (e : Entry) → slice_get h n ≡ Some e
    → is_same a (actor_of e) ≡ true
    → entries_by a h ≡ entries_by a (take n h) ++ e ∷ entries_by a (drop (suc n) h)
entries_on a h n e at is = grind (
  arith,
  take-append-drop (suc n) h,
  filter-append (λ x. is_same a (actor_of x)) (take n h ++ e ∷ []) (drop (suc n) h),
  filter-append (λ x. is_same a (actor_of x)) (take n h) (e ∷ []),
  append_assoc (entries_by a (take n h)) (e ∷ []) (entries_by a (drop (suc n) h)),
  add-one n,
  take_next h n e,
)

-- the entry that the note at a place represents
pub noted_at : (guest : ℕ) (notes : List Note) (n : ℕ) (note : Note) → slice_get notes n ≡ Some note
    → slice_get (history_of guest [] notes) n ≡ Some (noted_entry guest [] note)
noted_at guest notes n note at =
    slice_get-map (noted_entry guest []) notes n ∙ ap (option_map (noted_entry guest [])) at

-- an entry of the balancer that is the next of those that are expected
pub made_next : (h expected : List Entry) (n place : ℕ) (e : Entry) → slice_get h n ≡ Some e
    → is_same Balancer (actor_of e) ≡ true → entries_by Balancer (take n h) ≡ take place expected
    → list_all is_of_round (take place expected) ≡ true → (slice_get expected place ≡ Some e)
    × (is_of_round e ≡ true) → (entries_by Balancer (take (n + 1) h) ≡ take (place + 1) expected)
    × (list_all is_of_round (take (place + 1) expected) ≡ true)
made_next h expected n place e at own so_far all (here, of_round) =
    let next = take_next expected place e here in (
      ap (entries_by Balancer) (take_next h n e at) ∙ filter-append (λ x. is_same Balancer
          (actor_of x)) (take n h) (e ∷ []) ∙ rw own (ap (λ l. l ++ e ∷ []) so_far) ∙ sym next,
      ap (list_all is_of_round) next
          ∙ list_all-append is_of_round (take place expected) (e ∷ []) ∙ rw (all, of_round) refl,
    )

-- an entry of the balancer that isn't
pub not_made : (h expected : List Entry) (n place : ℕ) (e : Entry) → slice_get h n ≡ Some e
    → is_same Balancer (actor_of e) ≡ true → entries_by Balancer (take n h) ≡ take place expected
    → place ≤ length expected → ((slice_get expected place ≡ Some e) × (is_of_round e ≡ true) → ⊥)
    → (entries_by Balancer h ≡ expected) × (list_all is_of_round expected ≡ true) → ⊥
not_made h expected n place e at own so_far le other (same, all) =
    let more = entries_by Balancer (drop (suc n) h) in
    let whole : expected ≡ take place expected ++ e ∷ more =
    sym same ∙ entries_on Balancer h n e at own ∙ ap (λ l. l ++ e ∷ more) so_far in
    let here : slice_get expected place ≡ Some e = at_cut expected place e more le whole in
    other (here, passes_at is_of_round expected place e here all)
