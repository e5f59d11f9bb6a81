-- What single steps tell the pass that makes them, and how seats are cut and joined.
use Rattle.std.specs.Prelude.{◌≡◌, ℕ, zero, suc, ◌==◌, true, false, List, [], ◌∷◌}
use Rattle.std.specs.Prelude.{if◌then◌else◌}
use Rattle.atomic_table.specs.Table.{Me, Step}
use Rattle.vb_device.specs.Own.{has, without}
use Rattle.vb_shared.specs.declared.rule.Holding.{Holding}
use Rattle.vb_shared.specs.declared.rule.View.{View}
use Rattle.vb_shared.specs.Rule.{holding, view_of}

-- ---- a seat of one pass

-- The frames of a view's first pass.
abbrev pub held_in : List Holding → List ℕ
held_in [] = []
held_in (p ∷ ps) = p.held

abbrev pub held_of : View → List ℕ
held_of v = held_in v.holdings

-- The first pass with the number, and without it.
abbrev pub added : List Holding → ℕ → List Holding
added [] f = []
added (p ∷ ps) f = holding p.tag (f ∷ p.held) ∷ ps

abbrev pub removed : List Holding → ℕ → List Holding
removed [] f = []
removed (p ∷ ps) f = holding p.tag (without p.held f) ∷ ps

-- A try: a word that was free is the pass' own now, and it didn't hold it before.
abbrev pub claimed : Step (Unit {0}) → Me (Unit {0}) View → ℕ → Me (Unit {0}) View → Type 0
claimed s me found me' =
    (me'.1 ≡ me.1) ×
    (me'.0 ≡ view_of (if found == 0 then added me.0.holdings s.word else me.0.holdings)) ×
    ((found == 0) ≡ true → has (held_of me.0) s.word ≡ false)

-- A put-back: the word was the pass' own exactly where it held the frame, and it holds it no more.
abbrev pub returned : Step (Unit {0}) → Me (Unit {0}) View → ℕ → Me (Unit {0}) View → Type 0
returned s me found me' =
    (me'.1 ≡ me.1) × (me'.0 ≡ view_of (removed me.0.holdings s.word)) ×
    ((found == s.first) ≡ has (held_of me.0) s.word)

-- The first two passes have no frame in common.
abbrev pub Apart : List Holding → Type 0
Apart [] = Unit {0}
Apart (p ∷ []) = Unit {0}
Apart (p ∷ other ∷ ps) = (f : ℕ) → has p.held f ≡ true → has other.held f ≡ false

-- A look at two passes of one seat.
abbrev pub met : Step (Unit {0}) → Me (Unit {0}) View → ℕ → Me (Unit {0}) View → Type 0
met s me found me' = (me' ≡ me) × Apart me.0.holdings

-- ---- cuts

abbrev pub no_view : View
no_view = view_of []

abbrev pub first_of : List Holding → List Holding
first_of [] = []
first_of (p ∷ ps) = p ∷ []

abbrev pub rest_of : List Holding → List Holding
rest_of [] = []
rest_of (p ∷ ps) = ps

-- n passes with the tags from one on, that hold nothing.
abbrev pub new_holdings : ℕ → ℕ → List Holding
new_holdings tag zero = []
new_holdings tag (suc n) = holding tag [] ∷ new_holdings (suc tag) n

abbrev pub opening_view : ℕ → View
opening_view guests = view_of (new_holdings 0 guests)
