-- Worked facts of queues, lists of pages and bytes.
use Rattle.std.proofs.Common.{[], arith, false, map, refl, true, ◌∷◌, ◌≡◌}
use Rattle.std.specs.Prelude.{None, Some}
use Rattle.vb_virtio.specs.Memory.{overwritten}
use Rattle.vb_virtio.specs.Queues.{Deflating, Inflating, Reporting_free, has_chains}
use Rattle.vb_virtio.specs.Queues.{is_queue_of_requests, is_unvisited, kind_of_queue, lacks_feature}
use Rattle.vb_virtio.specs.Queues.{queue_of}
use Rattle.vb_virtio.specs.Tests.{AllDistinct, is_in, marked, one_if, pages_where, times}

-- ---- queues 0, 1, 2 and 4

kinds_of_queues : map kind_of_queue (0 ∷ 1 ∷ 2 ∷ 3 ∷ 4 ∷ 5 ∷ []) ≡ Some Inflating ∷ Some Deflating
    ∷ None ∷ None ∷ Some Reporting_free ∷ None ∷ []
kinds_of_queues = refl

queues_of_kinds : map queue_of (Inflating ∷ Deflating ∷ Reporting_free ∷ []) ≡ 0 ∷ 1 ∷ 4 ∷ []
queues_of_kinds = refl

queues_with_requests : map is_queue_of_requests (0 ∷ 1 ∷ 2 ∷ 3 ∷ 4 ∷ 5 ∷ []) ≡ true ∷ true ∷ false
    ∷ false ∷ true ∷ false ∷ []
queues_with_requests = refl

queues_with_chains : map has_chains (0 ∷ 1 ∷ 2 ∷ 3 ∷ 4 ∷ 5 ∷ []) ≡ true ∷ true ∷ true ∷ false ∷ true
    ∷ false ∷ []
queues_with_chains = refl

-- queue 2 goes with STATS_VQ (bit 1), queue 4 with REPORTING (bit 5), and no other with a feature
queues_without_features : map (λ features. map (lacks_feature features) (0 ∷ 1 ∷ 2 ∷ 4 ∷ []))
    (0 ∷ 2 ∷ 32 ∷ 34 ∷ []) ≡ (false ∷ false ∷ true ∷ true ∷ []) ∷ (false ∷ false ∷ false ∷ true ∷ [])
    ∷ (false ∷ false ∷ true ∷ false ∷ []) ∷ (false ∷ false ∷ false ∷ false ∷ []) ∷ []
queues_without_features = refl

-- of two pages: none visited, one, both
visits : map (λ visited. is_unvisited (record { head = 3; pages = 20 ∷ 21 ∷ []; visited = visited }))
    (0 ∷ 1 ∷ 2 ∷ []) ≡ true ∷ true ∷ false ∷ []
visits = refl

-- ---- lists of pages

among : map (λ page. is_in page (7 ∷ 5 ∷ 7 ∷ [])) (5 ∷ 6 ∷ 7 ∷ []) ≡ true ∷ false ∷ true ∷ []
among = refl

how_often : map (λ page. times page (7 ∷ 5 ∷ 7 ∷ [])) (5 ∷ 6 ∷ 7 ∷ []) ≡ 1 ∷ 0 ∷ 2 ∷ []
how_often = refl

ones : map one_if (true ∷ false ∷ []) ≡ 1 ∷ 0 ∷ []
ones = refl

three_pages : AllDistinct (7 ∷ 5 ∷ 6 ∷ [])
three_pages = grind arith

not_twice : (AllDistinct (7 ∷ 5 ∷ 7 ∷ []) → ⊥) × (AllDistinct (5 ∷ 7 ∷ 7 ∷ []) → ⊥)
not_twice = grind arith

-- pages 1 and 3 of four are marked, and a page past the last one changes nothing
marks : marked (3 ∷ 1 ∷ 4 ∷ []) true (false ∷ false ∷ false ∷ false ∷ []) ≡ false ∷ true ∷ false
    ∷ true ∷ []
marks = refl

marked_pages : pages_where (λ flag. flag) (false ∷ true ∷ false ∷ true ∷ []) ≡ 1 ∷ 3 ∷ []
marked_pages = refl

-- ---- bytes: just those from the offset on change
two_bytes : map (λ offset. overwritten offset (8 ∷ 9 ∷ []) (1 ∷ 2 ∷ 3 ∷ 4 ∷ [])) (0 ∷ 1 ∷ 2 ∷ [])
    ≡ (8 ∷ 9 ∷ 3 ∷ 4 ∷ []) ∷ (1 ∷ 8 ∷ 9 ∷ 4 ∷ []) ∷ (1 ∷ 2 ∷ 8 ∷ 9 ∷ []) ∷ []
two_bytes = refl
