-- One entry more in a guest's history.
use Rattle.std.proofs.Common.{◌≡◌, refl, sym, ◌∙◌, ap, subst, ℕ, ◌+◌, Bool, true, false, List, []}
use Rattle.std.proofs.Common.{◌∷◌, ◌++◌, length, take, Some, slice_get, slice_set, arith, ◌≢◌}
use Rattle.{std.proofs.Common.⊎_elim, vb_run.specs.Past.{Past, Progress, IsKept, IsAside, IsScript}}
use Rattle.{std.specs.Prelude.{slice_index_or, filter_map}, vb_slot.specs.Alone.AreBehind}
use Rattle.std.proofs.lemmas.{Option.slice_get_within, Bool.Decides.nat_tests, List.append-nil}
use Rattle.std.proofs.lemmas.List.Elements.{All-push, filter-append, filter_map-append}
use Rattle.vb_model.specs.GuestRun.{Entry, Called, EntryStep, Leads, last_guest, all_entries}
use Rattle.vb_model.specs.{GuestRun.IsHistory, declared.calls.{Actor.Actor, Call.Call}}
use Rattle.vb_model.specs.declared.calls.{Actor.TheVariants.Processor, Claim.Claim}
use Rattle.vb_model.specs.{declared.replies.Reply.Reply, Guest.{Guest, Config, fresh}}
use Rattle.vb_run.specs.Entries.{is_same, actor_of, call_of, entries_by, calls_by}
use Rattle.vb_run.specs.{Plans.config_of, Services.{IsTended, IsQuiet, services}}
use Rattle.vb_run.{specs.Made.{IsMade, AreMade}, proofs.Lists.{get_set, length_set, take_next}}

leads_push : (a b c : Guest) (entries : List Entry) (after : List Guest) (e : Entry)
    → Leads a (all_entries entries) after → last_guest a after ≡ b → EntryStep b e c
    → Leads a (all_entries (entries ++ e ∷ [])) (after ++ c ∷ [])
leads_push a b c [] [] e l ends s = (subst (λ (g : Guest). EntryStep g e c) (sym ends) s, tt)
leads_push a b c (x ∷ entries) (new ∷ after) e l ends s =
    (l.0, leads_push new b c entries after e l.1 ends s)
leads_push a b c [] (new ∷ after) e l ends s = absurd l
leads_push a b c (x ∷ entries) [] e l ends s = absurd l

last_push : (a c : Guest) (after : List Guest) → last_guest a (after ++ c ∷ []) ≡ c
last_push a c [] = refl
last_push a c (new ∷ after) = last_push new c after

pub run_push : (config : Config) (target : ℕ) (b c : Guest) (entries : List Entry) (e : Entry)
    → IsHistory config target entries b → EntryStep b e c
    → IsHistory config target (entries ++ e ∷ []) c
run_push config target b c entries e (after, leads, ends) s = (
  after ++ c ∷ [],
  leads_push (fresh config target) b c entries after e leads ends s,
  last_push (fresh config target) c after,
)

-- an entry of somebody else is none of the actor's
pub entries_other : (a : Actor) (entries : List Entry) (e : Entry)
    → is_same a (actor_of e) ≡ false → entries_by a (entries ++ e ∷ []) ≡ entries_by a entries
entries_other a entries e h = grind (arith, filter-append, append-nil)

pub entries_own : (a : Actor) (entries : List Entry) (e : Entry) → is_same a (actor_of e) ≡ true
    → entries_by a (entries ++ e ∷ []) ≡ entries_by a entries ++ e ∷ []
entries_own a entries e h =
    filter-append (λ x. is_same a (actor_of x)) entries (e ∷ []) ∙ (rw h refl)

pub calls_other : (a : Actor) (entries : List Entry) (e : Entry)
    → is_same a (actor_of e) ≡ false → calls_by a (entries ++ e ∷ []) ≡ calls_by a entries
calls_other a entries e h = ap (filter_map call_of) (entries_other a entries e h)

pub calls_own : (a : Actor) (entries : List Entry) (call : Call) (claims : List Claim)
    (reply : Reply) (b : Actor) → is_same a b ≡ true
    → calls_by a (entries ++ Called b call claims reply ∷ []) ≡ calls_by a entries ++ call ∷ []
calls_own a entries call claims reply b h = grind (arith, entries_own, filter_map-append)

pub made_push : (guest processors : ℕ) (entries : List Entry) (e : Entry)
    → AreMade guest processors entries → IsMade guest processors e
    → AreMade guest processors (entries ++ e ∷ [])
made_push guest processors entries e (claims, reply, rest, h, all) own = (
  claims,
  reply,
  rest ++ e ∷ [],
  ap (λ l. l ++ e ∷ []) h,
  All-push (IsMade guest processors) rest e all own,
)

pub aside_other : (a : Actor) (guest cpu : ℕ) → IsAside a → is_same (Processor guest cpu) a ≡ false
aside_other a guest cpu h = grind arith

-- an entry of none of the processors
pub kept_aside : (Is Is' : Guest → Type 0) (own own' : List ℕ) (p : Past) (e : Entry) (new : Guest)
    (quiet : List Bool) (k : IsKept Is own p) → IsAside (actor_of e)
    → IsMade p.guest (length p.scripts) e → Is' new → AreBehind own' new → EntryStep k.now e new
    → IsTended new → ((n : ℕ) (call : Call) → slice_index_or quiet n false ≡ true
    → slice_get services n ≡ Some call → IsQuiet new call)
    → IsKept Is' own' (record p { history = p.history ++ e ∷ []; quiet = quiet })
kept_aside Is Is' own own' p e new quiet k aside mine stands behind step tended hushed = record {
  now = new;
  stands = stands;
  run = run_push (config_of p.sizes p.paced) 0 k.now new p.history e k.run step;
  tended = tended;
  behind = behind;
  made = made_push p.guest (length p.scripts) p.history e k.made mine;
  follows = λ cpu s at. calls_other (Processor p.guest cpu) p.history e
      (aside_other (actor_of e) p.guest cpu aside) ∙ k.follows cpu s at;
  hushed = hushed;
  scripted = k.scripted;
}

is_own : (g c : ℕ) → is_same (Processor g c) (Processor g c) ≡ true
is_own g c = grind (arith, nat_tests)

is_not : (g c d : ℕ) → c ≢ d → is_same (Processor g c) (Processor g d) ≡ false
is_not g c d h = grind (arith, nat_tests)

-- the next call of a processor
pub kept_next : (Is Is' : Guest → Type 0) (own own' : List ℕ) (p : Past) (cpu : ℕ) (s : Progress)
    (call : Call) (claims : List Claim) (reply : Reply) (new : Guest)
    (quiet : List Bool) (k : IsKept Is own p) → slice_get p.scripts cpu ≡ Some s
    → slice_get s.calls s.place ≡ Some call → Is' new → AreBehind own' new
    → EntryStep k.now (Called (Processor p.guest cpu) call claims reply) new → IsTended new
    → ((n : ℕ) (call : Call) → slice_index_or quiet n false ≡ true
    → slice_get services n ≡ Some call → IsQuiet new call) → IsKept Is' own' (record p {
      history = p.history ++ Called (Processor p.guest cpu) call claims reply ∷ [];
      scripts = slice_set p.scripts cpu (record s { place = s.place + 1 });
      quiet = quiet;
    })
kept_next Is Is' own own' p cpu s call claims reply new quiet k here next stands behind step
    tended hushed = record {
      now = new;
      stands = stands;
      run = run_push (config_of p.sizes p.paced) 0 k.now new p.history e k.run step;
      tended = tended;
      behind = behind;
      made = subst (λ (n : ℕ). AreMade p.guest n (p.history ++ e ∷ []))
          (sym (length_set p.scripts cpu after)) (made_push p.guest
          (length p.scripts) p.history e k.made (refl, slice_get_within p.scripts cpu s here));
      follows = λ cpu' s' at. ⊎_elim (λ same. own_follows cpu' s' same.0 same.1) (λ other.
          calls_other (Processor p.guest cpu') p.history e (is_not p.guest cpu' cpu other.0)
          ∙ k.follows cpu' s' other.1) (get_set p.scripts cpu cpu' after s' at);
      hushed = hushed;
      scripted = λ cpu' s' at. ⊎_elim (λ same. own_scripted cpu' s' same.0 same.1)
          (λ other. k.scripted cpu' s' other.1) (get_set p.scripts cpu cpu' after s' at);
    }
  where
    e : Entry
    e = Called (Processor p.guest cpu) call claims reply

    after : Progress
    after = record s { place = s.place + 1 }

    own_follows : (cpu' : ℕ) (s' : Progress) → cpu' ≡ cpu → s' ≡ after
        → calls_by (Processor p.guest cpu') (p.history ++ e ∷ []) ≡ take s'.place s'.calls
    own_follows cpu' s' same is =
        ap (λ (c : ℕ). calls_by (Processor p.guest c) (p.history ++ e ∷ [])) same
        ∙ calls_own (Processor p.guest cpu) p.history call claims reply (Processor p.guest cpu)
        (is_own p.guest cpu) ∙ ap (λ l. l ++ call ∷ []) (k.follows cpu s here) ∙ sym
        (take_next s.calls s.place call next) ∙ ap (λ (t : Progress). take t.place t.calls) (sym is)

    own_scripted : (cpu' : ℕ) (s' : Progress) → cpu' ≡ cpu → s' ≡ after → IsScript cpu' s'.calls
    own_scripted cpu' s' same is = rw (same, is) (k.scripted cpu s here)
