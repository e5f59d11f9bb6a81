-- Worked facts of when a guest is pressed: counters and times by hand, in milliseconds.
use Rattle.std.proofs.Common.{◌≡◌, ℕ, List, [], ◌∷◌, map, true, false, refl}
use Rattle.vb_policy.specs.declared.pressure.Counter.{Counter}
use Rattle.vb_policy.specs.declared.pressure.Counters.{Counters}
use Rattle.vb_policy.specs.declared.pressure.Pressure.{Pressure}
use Rattle.vb_policy.specs.declared.pressure.Sample.{Sample}
use Rattle.vb_policy.specs.Pressing.{after, all_latest, has_risen, inflates, is_pressed, latest}
use Rattle.vb_policy.specs.Pressing.{presses_for}

-- ---- one counter

abbrev known : ℕ → Counter
known n = record { value = n; present = 1 }

abbrev unknown : ℕ → Counter
unknown n = record { value = n; present = 0 }

-- it rises, stays, falls, wraps around; any number is as good as 1
risen : map (λ c. has_risen (known 7) c)
    (known 8 ∷ known 7 ∷ known 6 ∷ known 0 ∷ record { value = 8; present = 9 } ∷ [])
    ≡ true ∷ false ∷ false ∷ false ∷ true ∷ []
risen = refl

wrapped : has_risen (known 18446744073709551615) (known 0)
    ∷ has_risen (known 18446744073709551614) (known 18446744073709551615) ∷ []
    ≡ false ∷ true ∷ []
wrapped = refl

-- a counter that is or was absent says nothing, and stays as it was known
absent : has_risen (known 7) (unknown 8) ∷ has_risen (unknown 7) (known 8)
    ∷ has_risen (unknown 7) (unknown 8) ∷ [] ≡ false ∷ false ∷ false ∷ []
absent = refl

stays : map (λ c. latest (known 7) c) (unknown 8 ∷ known 8 ∷ known 6 ∷ [])
    ≡ known 7 ∷ known 8 ∷ known 6 ∷ []
stays = refl

-- ---- two samples, with 100 pages in the balloon

abbrev counted : Counters
counted = record {
  swap_in = known 10;
  swap_out = known 20;
  oom_kills = known 30;
  stalls = known 40;
  direct_scan = known 50;
  direct_reclaim = known 60;
}

abbrev nothing : Counters
nothing = record {
  swap_in = unknown 99;
  swap_out = unknown 99;
  oom_kills = unknown 99;
  stalls = unknown 99;
  direct_scan = unknown 99;
  direct_reclaim = unknown 99;
}

-- those with one counter that has risen, in the order of the tags
abbrev each : List Counters
each = record counted { swap_in = known 11 } ∷ record counted { swap_out = known 21 }
    ∷ record counted { oom_kills = known 31 } ∷ record counted { stalls = known 41 }
    ∷ record counted { direct_scan = known 51 } ∷ record counted { direct_reclaim = known 61 } ∷ []

abbrev sampled : Counters → Sample
sampled counters = record { counters = counters; ballooned = 100; target = 100 }

-- each is as it was sampled last, or as it was before
kept : map (all_latest counted) each ≡ each
kept = refl

kept_before : all_latest counted nothing ∷ all_latest nothing counted ∷ []
    ≡ counted ∷ counted ∷ []
kept_before = refl

-- each presses alone, a killed process for two minutes; nothing that has risen, and what is lower
each_presses : map (λ c. presses_for (sampled counted) (sampled c)) each
    ≡ 5000 ∷ 5000 ∷ 120000 ∷ 5000 ∷ 5000 ∷ 5000 ∷ []
each_presses = refl

none_presses : presses_for (sampled counted) (sampled counted) ≡ 0
none_presses = refl

none_of_a_boot : map (λ c. presses_for (sampled c) (sampled counted)) each
    ≡ 0 ∷ 0 ∷ 0 ∷ 0 ∷ 0 ∷ 0 ∷ []
none_of_a_boot = refl

-- the first sample, and one without counters
none_of_the_first : map (λ c. presses_for (sampled nothing) (sampled c)) each
    ≡ 0 ∷ 0 ∷ 0 ∷ 0 ∷ 0 ∷ 0 ∷ []
none_of_the_first = refl

none_of_the_absent : presses_for (sampled counted) (sampled nothing) ≡ 0
none_of_the_absent = refl

-- Linux 6.1 has swap alone
swap_alone : presses_for (sampled (record nothing { swap_in = known 1; swap_out = known 2 }))
    (sampled (record nothing { swap_in = known 1; swap_out = known 3 })) ≡ 5000
swap_alone = refl

-- ---- while the balloon inflates nothing presses but a killed process

-- it grows, or is below its target now, or was; it stays, falls to a target, stays above one
inflating : inflates (sampled counted) (record (sampled counted) { ballooned = 101; target = 101 })
    ∷ inflates (sampled counted) (record (sampled counted) { target = 101 })
    ∷ inflates (record (sampled counted) { target = 101 }) (sampled counted) ∷ []
    ≡ true ∷ true ∷ true ∷ []
inflating = refl

inflating_not : inflates (sampled counted) (sampled counted)
    ∷ inflates (sampled counted) (record (sampled counted) { ballooned = 90; target = 90 })
    ∷ inflates (sampled counted) (record (sampled counted) { target = 90 })
    ∷ inflates (record (sampled counted) { target = 90 }) (sampled counted) ∷ []
    ≡ false ∷ false ∷ false ∷ false ∷ []
inflating_not = refl

kills_alone : map (λ c. presses_for (sampled counted) (record (sampled c) { target = 101 })) each
    ≡ 0 ∷ 0 ∷ 120000 ∷ 0 ∷ 0 ∷ 0 ∷ []
kills_alone = refl

-- ---- until when

abbrev pressed : ℕ → Pressure
pressed until = record { last = sampled counted; until = until }

abbrev stalled : Sample
stalled = sampled (record counted { stalls = known 41 })

abbrev killed : Sample
killed = sampled (record counted { oom_kills = known 31 })

-- what is remembered: a counter that is absent as it was, and the balloon as it is
remembered : after (pressed 0)
    (record { counters = record nothing { stalls = known 41 }; ballooned = 90; target = 80 }) 1000
    ≡ record {
      last = record { counters = record counted { stalls = known 41 }; ballooned = 90; target = 80 };
      until = 6000;
    }
remembered = refl

-- at 3000: a quiet sample ends nothing, a stall presses until 8000, and never ends what a kill began
-- earlier; a clock that was set back does
later : (after (pressed 5000) (sampled counted) 3000).until ∷ (after (pressed 5000) stalled 3000).until
    ∷ (after (pressed 121000) stalled 3000).until ∷ (after (pressed 5000) killed 3000).until
    ∷ (after (pressed 999999) (sampled counted) 3000).until ∷ []
    ≡ 5000 ∷ 8000 ∷ 121000 ∷ 123000 ∷ 123000 ∷ []
later = refl

-- time that stands still, and its end
still : (after (after (pressed 0) stalled 1000) stalled 1000).until ≡ 6000
still = refl

ends : (after (pressed 0) killed 18446744073709551615).until
    ∷ (after (pressed 0) stalled 18446744073709551614).until
    ∷ (after (pressed 0) stalled 18446744073709546615).until
    ∷ (after (pressed 0) stalled 18446744073709546614).until ∷ []
    ≡ 18446744073709551615 ∷ 18446744073709551615 ∷ 18446744073709551615 ∷ 18446744073709551614 ∷ []
ends = refl

-- before that time, and not from then on
times : map (is_pressed (pressed 6000)) (0 ∷ 5999 ∷ 6000 ∷ 6001 ∷ 18446744073709551615 ∷ [])
    ≡ true ∷ true ∷ false ∷ false ∷ false ∷ []
times = refl

nobody : is_pressed (pressed 0) 0 ≡ false
nobody = refl
