-- Worked facts of what a guest counts for, what it can give, and what is asked of it: numbers by
-- hand, in pages, with a floor of 100, a slack of 20 and a reserve of 10 percent.
use Rattle.std.proofs.Common.{◌≡◌, ◌∙◌, ℕ, List, [], ◌∷◌, map, true, false, refl, ap, arith}
use Rattle.vb_policy.specs.declared.figures.Budget.{Budget}
use Rattle.vb_policy.specs.declared.figures.Contact.TheVariants.{Starting, Silent, Heard, Away}
use Rattle.vb_policy.specs.declared.figures.Figures.{Figures}
use Rattle.vb_policy.specs.declared.guest.Decision.TheVariants.{Enough, Short}
use Rattle.vb_policy.specs.Asking.{Asks, host_of, joined, lack, starves}
use Rattle.vb_policy.specs.Needs.{cached_of, contact_of, counts, forced, guest_of, most_of, spare_of}
use Rattle.vb_policy.specs.Needs.{target_of, unused_of, wants, yielding, yields}

abbrev budget : ℕ → Budget
budget frames = record { frames = frames; floor = 100; slack = 20; reserve = 10; band = 35 }

-- 500 of its 1000 pages are available, 300 of them free
abbrev known : Figures
known = record {
  pages = 1000;
  held = 0;
  ballooned = 0;
  ballooned_then = 0;
  available = 500;
  free = 300;
  lent = 0;
  asked = 0;
  least = 0;
  most = 4294967295;
  weight = 1;
  priority = 0;
  target = 0;
  contact = 2;
  strict = 0;
  uncounted = 0;
  paused = 0;
  pressed = 0;
  first = 0;
}

abbrev given : Figures
given = record known { ballooned = 60; ballooned_then = 40; held = 300 }

abbrev waiting : Figures
waiting = record known { strict = 1; lent = 400; asked = 600; first = 1 }

abbrev tiers : Figures → List ℕ
tiers g = counts g ∷ unused_of (budget 0) g ∷ cached_of (budget 0) g ∷ spare_of (budget 0) g
    ∷ most_of (budget 0) g ∷ []

contacts : map contact_of (0 ∷ 1 ∷ 2 ∷ 3 ∷ 4 ∷ 65535 ∷ [])
    ≡ Starting ∷ Silent ∷ Heard ∷ Away ∷ Starting ∷ Starting ∷ []
contacts = refl

-- 50 stay free, 200 available with its reserve, 100 without that, 80 with the slack
heard : tiers known ≡ 1000 ∷ 250 ∷ 300 ∷ 400 ∷ 420 ∷ []
heard = refl

-- with the 40 that were in its balloon then
heard_given : tiers given ≡ 1000 ∷ 290 ∷ 340 ∷ 440 ∷ 460 ∷ []
heard_given = refl

-- more free than available doesn't count; of 100000 pages a 512th stays free
free_alone : tiers (record known { available = 170 }) ≡ 1000 ∷ 120 ∷ 0 ∷ 70 ∷ 90 ∷ []
free_alone = refl

large : tiers (record known { pages = 100000; available = 30000; free = 20000 })
    ≡ 100000 ∷ 19805 ∷ 19900 ∷ 29900 ∷ 29920 ∷ []
large = refl

-- whatever it says, no more than its pages
lies : tiers (record known {
  ballooned_then = 4294967295;
  available = 4294967295;
  free = 4294967295;
}) ≡ 1000 ∷ 950 ∷ 800 ∷ 900 ∷ 920 ∷ []
lies = refl

-- paused and pressed, what is in its balloon now; a pressed one more of its reserve
paused : tiers (record given { paused = 1 }) ≡ 1000 ∷ 60 ∷ 60 ∷ 60 ∷ 60 ∷ []
paused = refl

pressed : tiers (record given { pressed = 1 }) ≡ 1000 ∷ 60 ∷ 60 ∷ 440 ∷ 460 ∷ []
pressed = refl

pressed_is_poor : target_of (budget 0) (record given { pressed = 1; target = 5 })
    ∷ target_of (budget 0) (record given { target = 5 }) ∷ [] ≡ 4294967295 ∷ 5 ∷ []
pressed_is_poor = refl

-- by contact: one that starts, a silent one and one that has gone
starts : tiers (record given { contact = 0 }) ≡ 1000 ∷ 0 ∷ 0 ∷ 0 ∷ 0 ∷ []
starts = refl

silent : tiers (record given { contact = 1 }) ≡ 360 ∷ 60 ∷ 60 ∷ 60 ∷ 60 ∷ []
silent = refl

away : tiers (record given { contact = 3 }) ≡ 300 ∷ 0 ∷ 0 ∷ 0 ∷ 0 ∷ []
away = refl

-- one that waits for 50 beside 400, whatever its contact, and one that isn't strict; a balloon that
-- doesn't count
waits : tiers (record waiting { asked = 50; contact = 1 }) ≡ 1000 ∷ 550 ∷ 550 ∷ 550 ∷ 550 ∷ []
waits = refl

waits_not : tiers (record known { lent = 400; asked = 50 }) ≡ tiers known
waits_not = refl

uncounted : tiers (record given { uncounted = 1; contact = 1 }) ≡ 1000 ∷ 0 ∷ 0 ∷ 0 ∷ 0 ∷ []
uncounted = refl

-- its least and its most pages
least : tiers (record known { least = 700 }) ≡ 1000 ∷ 250 ∷ 300 ∷ 300 ∷ 300 ∷ []
least = refl

most : forced (budget 0) (record known { most = 900 })
    ∷ forced (budget 0) (record known { most = 0 })
    ∷ forced (budget 0) (record waiting { most = 0 }) ∷ [] ≡ 100 ∷ 400 ∷ 0 ∷ []
most = refl

decided_on : guest_of (budget 0)
    (record known { most = 900; weight = 3; priority = 4; target = 130 }) ≡ record {
      unused = 150;
      cached = 200;
      spare = 300;
      weight = 3;
      priority = 4;
      target = 30;
      most = 320;
      waits = false;
    }
decided_on = refl

-- ---- while the first waits: a quarter of the floor stays, and what the others that wait were lent

yielded : map (yields (budget 0)) (known ∷ waiting ∷ record waiting { first = 0 }
    ∷ record waiting { first = 0; least = 500 } ∷ []) ≡ 475 ∷ 0 ∷ 600 ∷ 500 ∷ []
yielded = refl

yields_beside : (yielding (budget 0) (record known { most = 900 })).spare ≡ 375
yields_beside = refl

-- ---- all guests: 2000 pages, and what is missing; one starves on a short host if it waits

missing : lack (budget 1300) (known ∷ known ∷ []) ∷ lack (budget 2001) (known ∷ known ∷ [])
    ∷ lack (budget 1300) (record known { most = 900 } ∷ known ∷ []) ∷ [] ≡ 700 ∷ 0 ∷ 600 ∷ []
missing = refl

-- what is missing is a number of 64 bits, and a target one of 32; slack and band are the budget's
most_missing : lack (budget 0) (record known { pages = 36893488147419103232 } ∷ [])
    ≡ 18446744073709551615
most_missing = refl

most_asked : joined (budget 0) (record known { most = 900 } ∷ []) (4294967295 ∷ [])
    ≡ 4294967295 ∷ []
most_asked = refl

decided_for : host_of (budget 1300) (known ∷ known ∷ [])
    ≡ record { lack = 700; slack = 20; band = 35 }
decided_for = refl

starving : starves (budget 1300) (known ∷ known ∷ [])
    ∷ starves (budget 1100) (known ∷ known ∷ []) ∷ starves (budget 1600) (known ∷ waiting ∷ [])
    ∷ starves (budget 1599) (known ∷ waiting ∷ []) ∷ [] ≡ false ∷ false ∷ false ∷ true ∷ []
starving = refl

both : joined (budget 0) (record known { most = 900 } ∷ known ∷ []) (30 ∷ 40 ∷ [])
    ≡ 130 ∷ 40 ∷ []
both = refl

-- where nothing is missing, what is forced is asked for and no more
enough : (targets : List ℕ)
    → Asks (budget 2000) (record known { most = 900 } ∷ known ∷ []) Enough targets
    → targets ≡ 100 ∷ 0 ∷ []
enough targets h = h.usual refl
    ∙ ap (λ (ts : List ℕ). joined (budget 2000) (record known { most = 900 } ∷ known ∷ []) ts)
    h.decides.1

-- 500 are missing, and 400 can be given: for the first that waits 475 are asked for
first_alone : Asks (budget 1500) (known ∷ waiting ∷ []) (Short 100) (475 ∷ 0 ∷ [])
first_alone = record {
  decided = 400 ∷ 0 ∷ [];
  decides = (omega arith, refl, refl);
  usual = λ e. absurd cc;
  first = λ e. (Short 25, 475 ∷ 0 ∷ [], (omega arith, refl, refl), refl);
}

-- 801 are missing, and 800 can be given: all of it is asked for
one_page_short : Asks (budget 1199) (known ∷ known ∷ []) (Short 1) (400 ∷ 400 ∷ [])
one_page_short = record {
  decided = 400 ∷ 400 ∷ [];
  decides = (omega arith, refl, refl);
  usual = λ e. refl;
  first = λ e. absurd cc;
}

-- ---- what a guest that waits takes in the end: by what it asks for, its statistics, its floor and
-- its most pages

abbrev starved : ℕ → ℕ → Figures
starved available asked = record known {
  available = available;
  ballooned_then = 300;
  ballooned = 300;
  strict = 1;
  lent = 700;
  asked = asked;
}

takes : map (wants (budget 0)) (starved 0 1 ∷ starved 0 99 ∷ starved 0 101 ∷ starved 99 1 ∷ starved 99 2
    ∷ starved 100 1 ∷ starved 0 0 ∷ []) ≡ 100 ∷ 100 ∷ 101 ∷ 1 ∷ 2 ∷ 1 ∷ 0 ∷ []
takes = refl

-- one that is silent, or starts; whose most is less; which isn't strict; whose balloon doesn't count
takes_else : map (wants (budget 0)) (record (starved 0 1) { contact = 1 } ∷ record (starved 0 1) { contact = 0 }
    ∷ record (starved 0 1) { most = 750 } ∷ record (starved 0 1) { most = 600 }
    ∷ record (starved 0 1) { strict = 0 } ∷ record (starved 0 1) { strict = 0; uncounted = 1 }
    ∷ record (starved 0 1) { paused = 1; pressed = 1 } ∷ []) ≡ 1 ∷ 300 ∷ 50 ∷ 1 ∷ 0 ∷ 100 ∷ 100 ∷ []
takes_else = refl
