use Rattle.std.proofs.{lemmas.List.length-map, Common.{List, ◌++◌, length, take, drop, map, arith}}
use Rattle.{std.proofs.Common.{◌≡◌, ℕ}, vb_pages.proofs.free.FreePages.renew.Goals.After-loop-list}
use Rattle.vb_pages.proofs.FreeLemmas.{rows_back, sound_at, all_nothing, fresh_sound}
use Rattle.vb_pages.proofs.FreeLemmas.{flat-empty, list-empty, free_of, same_free, nothing}
use Rattle.vb_pages.proofs.free.FreePages.renew.Goals as goal

rows : (c : After-loop-list) → take c.self.inside.lists.len
    (c.loop-list.list-items ++ drop (length c.loop-list.list-items) c.self.inside.lists.items)
    ≡ map (λ (l : List ℕ). nothing) c.self.inside.lists.items
rows c = grind (arith, rows_back, all_nothing)

pub invariant_of-self : goal.invariant_of-self
invariant_of-self c = let xs = c.self.inside.lists.items in
    let n = length c.self.inside.areas in
    let s = fresh_sound n c.self.inside.reserved (map (λ (l : List ℕ). nothing) xs) c.self.invariant.small
    (omega (arith, c.self.invariant.few, length-map xs (λ (l : List ℕ). nothing)))
    (flat-empty xs) (list-empty xs) in grind (arith, sound_at, rows)

pub returns : goal.returns
returns c = grind (arith, free_of, same_free, rows, nothing)
