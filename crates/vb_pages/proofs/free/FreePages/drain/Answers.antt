use Rattle.std.proofs.Common.{◌≡◌, ℕ, List, ◌++◌, length, take, drop, map, ap, ◌∙◌}
use Rattle.{vb_pages.specs.FreePages.drained, std.proofs.lemmas.List.length-map}
use Rattle.vb_pages.proofs.FreeLemmas.{rows_back, sound_at, drained_sound, free_of, nothing}
use Rattle.vb_pages.proofs.free.FreePages.drain.Goals as goal

pub invariant_of-self : goal.invariant_of-self
invariant_of-self c = let xs = c.self.inside.lists.items in
    let ys = c.drain_lists.new.lists in
    let f = free_of c.self.inside.areas xs c.self.inside.reserved in
    let start : c.deref_mut.result.now ≡ xs = c.deref_mut.ensures.value in
    let now : ys ≡ map (λ (l : List ℕ). nothing) xs =
    c.drain_lists.ensures.lists ∙ ap (map (λ (l : List ℕ). nothing)) start in
    let l : length ys ≡ length xs = ap length now ∙ length-map xs (λ (l : List ℕ). nothing) in
    let rows : take c.self.inside.lists.len (ys ++ drop (length ys) xs)
    ≡ map (λ (l : List ℕ). nothing) xs =
    rows_back c.self.inside.lists.len ys xs c.self.inside.lists.ok.0 l ∙ now in
    let areas : c.drain_lists.new.areas ≡ (drained f).areas = c.drain_lists.ensures.areas
    ∙ ap (λ (ls : List (List ℕ)). (drained (free_of c.self.inside.areas ls c.self.inside.reserved)).areas) start in
    sound_at c.drain_lists.new.areas (drained f).areas
    (take c.self.inside.lists.len (ys ++ drop (length ys) xs)) (drained f).lists f.reserved areas rows
    (drained_sound f c.self.invariant)
