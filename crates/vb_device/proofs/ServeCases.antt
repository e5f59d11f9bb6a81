-- What a device that serves one chain may have done: it was refused, it took, or it took and used.
use Rattle.std.proofs.Common.{◌≡◌, ℕ, Bool, true, false, Option, Some, None, Result, Ok, Err, refl}
use Rattle.std.specs.Prelude.{MatchBool, ◌==◌}
use Rattle.vb_virtio.specs.Queues.{Request}
use Rattle.vb_virtio.specs.declared.refusals.Refusal.{Refusal}
use Rattle.vb_ram.specs.{Pages.Pages, Part.Part}
use Rattle.vb_device.specs.Calls.{FollowsTake, ServesBy, TakesBy, Uses}
use Rattle.vb_device.specs.Conditions.{serve_refusal, taken_at}

pub data Did (q : ℕ) (m1 m2 : Pages) (p1 p2 : Part) (result : Result (Option ℕ) Refusal) :
    Type 0 where
  Not_served : (why : Refusal) → serve_refusal q p1 ≡ Some why → result ≡ Err why → p2 ≡ p1
      → m2 ≡ m1 → Did q m1 m2 p1 p2 result
  Only_took : (part : Part) → serve_refusal q p1 ≡ None → TakesBy q m1 m1 p1 part result
      → p2 ≡ part → m2 ≡ m1 → Did q m1 m2 p1 p2 result
  Took_and_used : (part : Part) (h : ℕ) (r : Request) → serve_refusal q p1 ≡ None
      → (q == 2) ≡ false → result ≡ Ok (Some h) → TakesBy q m1 m1 p1 part (Ok (Some h))
      → taken_at q 0 part ≡ Some r → Uses q 0 r m1 m2 part p2 (Ok r.head)
      → Did q m1 m2 p1 p2 result

after_take : (q : ℕ) {m1 m2 : Pages} {p1 p2 part : Part} (result : Result (Option ℕ) Refusal)
    → serve_refusal q p1 ≡ None → TakesBy q m1 m1 p1 part result
    → FollowsTake q m1 m2 part p2 result → Did q m1 m2 p1 p2 result
after_take q (Ok None) free takes follows = Only_took _ free takes follows.1 follows.0
after_take q (Err why) free takes follows = Only_took _ free takes follows.1 follows.0
after_take q {m1} {m2} {p1} {p2} {part} (Ok (Some h)) free takes follows = by (q == 2) refl follows
  where
    by : (b : Bool) → (q == 2) ≡ b → MatchBool b ((m2 ≡ m1) × (p2 ≡ part))
        ((r : Request) × (taken_at q 0 part ≡ Some r) × Uses q 0 r m1 m2 part p2 (Ok r.head))
        → Did q m1 m2 p1 p2 (Ok (Some h))
    by true e s = Only_took part free takes s.1 s.0
    by false e s = Took_and_used part h s.0 free e refl takes s.1 s.2

pub what_it_did : {q : ℕ} {m1 m2 : Pages} {p1 p2 : Part} {result : Result (Option ℕ) Refusal}
    → ServesBy q m1 m2 p1 p2 result → Did q m1 m2 p1 p2 result
what_it_did {q} {m1} {m2} {p1} {p2} {result} did = by (serve_refusal q p1) refl where
  by : (o : Option Refusal) → serve_refusal q p1 ≡ o → Did q m1 m2 p1 p2 result
  by (Some why) e = let (answer, part, memory) = did.refused why e in
      Not_served why e answer part memory
  by None e = let next = did.serves e in after_take q result e next.1 next.2
