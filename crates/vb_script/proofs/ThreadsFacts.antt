-- What lines of a script for guests on threads say, and what they make together, worked out.
use Rattle.std.proofs.Common.{◌≡◌, ℕ, List, [], ◌∷◌, Some, None, codes, map, refl, arith}
use Rattle.std.specs.Prelude.{Option, replicate}
use Rattle.vb_model.specs.declared.calls.Call.TheVariants.{Alloc, Inflate, Reap, Stats}
use Rattle.vb_script.specs.declared.lines.Pace.TheVariants.{Immediate, Paced}
use Rattle.vb_script.specs.Plans.{Made, Plan, calls_in, plan_of}
use Rattle.vb_script.{specs.declared.threads.ThreadsLine.ThreadsLine, specs.Threads.threads}
use Rattle.vb_script.specs.declared.threads.ThreadsLine.TheVariants.{Plug, Rounds, Cpu, Call}
use Rattle.vb_script.{specs.Names.{form_of, threads_form_of}, specs.Words.{number_of, words_of}}

-- a plug is first or after a plug
plug_first : threads [] (words_of (codes "plug 64 8 1")) ≡ Some (Plug 64 8 1)
unfolding threads_form_of form_of number_of
plug_first = refl

plug_behind_a_plug :
    threads (Plug 64 8 1 ∷ []) (words_of (codes "plug 128 2 4")) ≡ Some (Plug 128 2 4)
unfolding threads_form_of form_of number_of
plug_behind_a_plug = refl

no_plug_behind_rounds :
    threads (Plug 64 8 1 ∷ Rounds 16 1 ∷ []) (words_of (codes "plug 64 8 1")) ≡ None
unfolding threads_form_of form_of number_of
no_plug_behind_rounds = refl

no_plug_behind_a_call : threads (Call 0 Stats ∷ []) (words_of (codes "plug 64 8 1")) ≡ None
unfolding threads_form_of form_of number_of
no_plug_behind_a_call = refl

-- so do rounds, the floor before the count
rounds_behind_a_plug :
    threads (Plug 64 8 1 ∷ []) (words_of (codes "rounds 16 3")) ≡ Some (Rounds 16 3)
unfolding threads_form_of number_of
rounds_behind_a_plug = refl

no_rounds_twice : threads (Rounds 16 1 ∷ []) (words_of (codes "rounds 16 1")) ≡ None
unfolding threads_form_of number_of
no_rounds_twice = refl

no_rounds_behind_a_processor : threads (Cpu 0 ∷ []) (words_of (codes "rounds 16 1")) ≡ None
unfolding threads_form_of number_of
no_rounds_behind_a_processor = refl

-- a processor and a call are anywhere
cpu_first : threads [] (words_of (codes "cpu 99")) ≡ Some (Cpu 99)
unfolding threads_form_of number_of
cpu_first = refl

call_names_another_processor :
    threads (Cpu 0 ∷ []) (words_of (codes "alloc 1 2 5")) ≡ Some (Call 1 (Alloc 2 5))
unfolding threads_form_of form_of number_of
call_names_another_processor = refl

call_first : threads [] (words_of (codes "stats 0")) ≡ Some (Call 0 Stats)
unfolding threads_form_of form_of number_of
call_first = refl

-- a word too many, and none
other_words : map (λ line. threads [] (words_of line)) (codes "rounds 16 3 1" ∷ codes "rounds 16"
    ∷ codes "cpu 1 1" ∷ codes "cpu" ∷ codes "plug 64 8 1 1" ∷ []) ≡ replicate 5 None
unfolding threads_form_of form_of number_of
other_words = refl

-- no line of a device, no reset
no_take : threads (Plug 64 8 1 ∷ []) (words_of (codes "take 0 0")) ≡ None
unfolding threads_form_of form_of number_of
no_take = refl

no_reset : threads (Plug 64 8 1 ∷ []) (words_of (codes "reset 0")) ≡ None
unfolding threads_form_of form_of number_of
no_reset = refl

-- Two guests: the first spare device is the first one's, and one is left over. Calls are those of
-- the processor that was chosen last.
abbrev two_guests : List ThreadsLine
two_guests = Plug 64 8 2 ∷ Plug 128 2 1 ∷ Rounds 16 3 ∷ Call 0 Stats
    ∷ Cpu 1 ∷ Call 0 (Reap 0) ∷ Cpu 0 ∷ Call 1 (Inflate 4) ∷ Call 0 (Alloc 1 5) ∷ Cpu 9 ∷ []

a_plan :
    plan_of (record { frames = 64; spares = Immediate ∷ Paced ∷ Paced ∷ []; events = two_guests })
    ≡ Some (record {
      frames = 64;
      guests = record {
        pace = Immediate;
        pages = 64;
        queue_size = 8;
        processors = 2;
        scripts = (Stats ∷ Alloc 1 5 ∷ []) ∷ (Reap 0 ∷ []) ∷ [];
      } ∷ record {
        pace = Paced;
        pages = 128;
        queue_size = 2;
        processors = 1;
        scripts = (Inflate 4 ∷ []) ∷ [];
      } ∷ [];
      floor = 16;
      rounds = 3;
    })
unfolding plan_of
a_plan = refl

-- each guest has at most four processors, and each call is by one that is there
abbrev plan_after_one : List ThreadsLine → Option Plan
plan_after_one lines =
    plan_of (record { frames = 64; spares = Paced ∷ Paced ∷ Paced ∷ []; events = Plug 64 8 1 ∷ lines })

each_of_them : map plan_after_one ((Plug 64 8 5 ∷ []) ∷ (Call 0 Stats ∷ Call 1 Stats ∷ [])
    ∷ (Call 1 Stats ∷ Call 0 Stats ∷ []) ∷ (Call 0 Stats ∷ Cpu 1 ∷ Call 0 Stats ∷ []) ∷ [])
    ≡ replicate 4 None
unfolding plan_of
each_of_them = refl

-- without a line there are no rounds
no_rounds : plan_of (record { frames = 64; spares = Paced ∷ []; events = Plug 64 8 1 ∷ [] })
    ≡ Some (record {
      frames = 64;
      guests =
          record { pace = Paced; pages = 64; queue_size = 8; processors = 1; scripts = [] ∷ [] }
          ∷ [];
      floor = 0;
      rounds = 0;
    })
unfolding plan_of
no_rounds = refl

-- no guest, too few spare devices, too many processors
no_guest : plan_of (record { frames = 64; spares = Paced ∷ []; events = Rounds 16 1 ∷ [] }) ≡ None
unfolding plan_of
no_guest = refl

no_spare : plan_of (record { frames = 64; spares = Paced ∷ []; events = two_guests }) ≡ None
unfolding plan_of
no_spare = refl

four_processors : plan_of (record { frames = 64; spares = Paced ∷ []; events = Plug 64 8 4 ∷ [] })
    ≡ Some (record {
      frames = 64;
      guests = record {
        pace = Paced;
        pages = 64;
        queue_size = 8;
        processors = 4;
        scripts = [] ∷ [] ∷ [] ∷ [] ∷ [];
      } ∷ [];
      floor = 0;
      rounds = 0;
    })
unfolding plan_of
four_processors = refl

five_processors :
    plan_of (record { frames = 64; spares = Paced ∷ []; events = Plug 64 8 5 ∷ [] }) ≡ None
unfolding plan_of
five_processors = refl

-- a call on a guest that isn't there, and one by a processor that isn't
other_guest : plan_of
    (record { frames = 64; spares = Paced ∷ []; events = Plug 64 8 1 ∷ Call 1 Stats ∷ [] }) ≡ None
unfolding plan_of
other_guest = refl

other_processor : plan_of
    (record { frames = 64; spares = Paced ∷ []; events = Plug 64 8 1 ∷ Cpu 1 ∷ Call 0 Stats ∷ [] })
    ≡ None
unfolding plan_of
other_processor = refl

-- ---- a processor that was chosen makes all calls up to the next choice

abbrev made : ℕ → ℕ → Made
made guest cpu = record { guest = guest; cpu = cpu; call = Stats }

-- on either guest, whatever lines are between; and those before the first choice are processor 0's
chosen : calls_in (Call 0 Stats ∷ Call 1 Stats ∷ Cpu 2 ∷ Call 0 Stats ∷ Plug 64 8 1 ∷ Call 1 Stats
    ∷ Rounds 16 3 ∷ Call 0 Stats ∷ Cpu 3 ∷ Cpu 1 ∷ Call 0 Stats ∷ Call 0 Stats ∷ [])
    ≡ made 0 0 ∷ made 1 0 ∷ made 0 2 ∷ made 1 2 ∷ made 0 2 ∷ made 0 1 ∷ made 0 1 ∷ []
chosen = refl

-- not for one call only
not_once : calls_in (Cpu 1 ∷ Call 0 Stats ∷ Call 0 Stats ∷ []) ≡ made 0 1 ∷ made 0 0 ∷ [] → ⊥
not_once e = grind (arith, e)

-- so a call on a guest that hasn't the processor makes no plan after one on a guest that has it
still_chosen : plan_of (record {
  frames = 64;
  spares = Paced ∷ Paced ∷ [];
  events = Plug 64 8 2 ∷ Plug 64 8 1 ∷ Cpu 1 ∷ Call 0 Stats ∷ Call 1 Stats ∷ [];
}) ≡ None
unfolding plan_of
still_chosen = refl
