-- A take of the next chain of a queue, put together from what the ring's end and the request's
-- bytes give.
use Rattle.std.specs.Prelude.{◌≡◌, ◌+◌, ◌%◌, ◌<◌, true, [], ◌∷◌, Some, None, Result, Ok, Err, refl}
use Rattle.{std.specs.Prelude.{ℕ, List, ◌++◌, Option}, vb_ring.specs.{Ends.DeviceEnd, Calls.PopsBy}}
use Rattle.std.{specs.Prelude.false, proofs.Common.{sym, ◌∙◌, ap, arith, zero, suc, get_or, length}}
use Rattle.vb_virtio.specs.Queues.{Request}
use Rattle.vb_virtio.specs.declared.refusals.Refusal.{Refusal}
use Rattle.vb_virtio.specs.declared.refusals.Refusal.TheVariants.{Broken}
use Rattle.vb_virtio.specs.declared.statistics.LastStatistics.{LastStatistics}
use Rattle.vb_ram.specs.Pages.{Pages}
use Rattle.{vb_chain.specs.declared.fault.ChainFault.ChainFault, vb_request.specs.Refusals.rule_of}
use Rattle.{vb_ring.specs.declared.device.Taken.Taken, vb_request.specs.Asked.{request_of, noted}}
use Rattle.vb_device.specs.QueueState.{QueueState, with_request, is_full, TakesNext}

abbrev at : ℕ → DeviceEnd → List Request → QueueState
at q ring taken = record { number = q; ring = ring; taken = taken }

-- a queue that a chain may be taken from
abbrev pub IsOpen : ℕ → DeviceEnd → List Request → Type 0
IsOpen q ring taken = (is_full q (at q ring taken) ≡ false) × (ring.ready ≡ true)

true_false : true ≡ false → ⊥
true_false e = cc

abbrev broken : ChainFault → Result (Option ℕ) Refusal
broken f = Err (Broken (rule_of f))

ok_err : {A : Type 0} (x : A) (f : ChainFault) → Ok x ≡ Err f → ⊥
ok_err x f e = cc

err_ok : {A : Type 0} (x : A) (f : ChainFault) → Err f ≡ Ok x → ⊥
err_ok x f e = cc

ok_some_none : (t : Taken) (r : Result (Option Taken) ChainFault) → r ≡ Ok (Some t) → r ≡ Ok None →
    ⊥
ok_some_none t r a b = cc

same_err : (r : Result (Option Taken) ChainFault) (f g : ChainFault) → r ≡ Err f → r ≡ Err g → f ≡ g
same_err r f g a b = cc

same_fault : (r : Result (List ℕ) ChainFault) (f g : ChainFault) → r ≡ Err f → r ≡ Err g → f ≡ g
same_fault r f g a b = cc

same_pages : (r : Result (List ℕ) ChainFault) (xs ys : List ℕ) → r ≡ Ok xs → r ≡ Ok ys → xs ≡ ys
same_pages r xs ys a b = cc

pub next_none : (q : ℕ) (mem : Pages) (r1 r2 : DeviceEnd) (taken : List Request)
    (l : LastStatistics) → IsOpen q r1 taken → PopsBy mem r1 r2 (Ok None) →
    TakesNext q mem (at q r1 taken) (at q r2 taken) l l (Ok None)
next_none q mem r1 r2 taken l may pops =
    let same : at q r2 taken ≡ at q r1 taken = ap (λ r. at q r taken) pops.state in record {
      busy = λ b. absurd (true_false (sym b ∙ may.0));
      empty = λ k e. (refl, same, refl);
      jump = λ f k e. absurd (ok_err None f (pops.jump f may.1 e));
      fault = λ h f k e gives. absurd (ok_err None f (pops.fault h f may.1 e gives));
      wrong = λ h pieces f k e gives bad. absurd (pops.chain h pieces may.1 e gives);
      takes = λ h pieces pages k e gives good. absurd (pops.chain h pieces may.1 e gives);
      means = (may.0, same, refl);
    }

pub next_err : (q : ℕ) (mem : Pages) (r1 r2 : DeviceEnd) (taken : List Request) (l : LastStatistics)
    (f : ChainFault) → IsOpen q r1 taken → PopsBy mem r1 r2 (Err f)
    → TakesNext q mem (at q r1 taken) (at q r2 taken) l l (Err (Broken (rule_of f)))
next_err q mem r1 r2 taken l f may pops =
    let same : at q r2 taken ≡ at q r1 taken = ap (λ r. at q r taken) pops.state in record {
      busy = λ b. absurd (true_false (sym b ∙ may.0));
      empty = λ k e. absurd (err_ok None f (pops.none may.1 e));
      jump = λ g k e. (ap broken (same_err (Err f) f g refl (pops.jump g may.1 e)), same, refl);
      fault = λ h g k e gives.
          (ap broken (same_err (Err f) f g refl (pops.fault h g may.1 e gives)), same, refl);
      wrong = λ h pieces g k e gives bad. absurd (pops.chain h pieces may.1 e gives);
      takes = λ h pieces pages k e gives good. absurd (pops.chain h pieces may.1 e gives);
      means = (may.0, same, refl);
    }

-- the end that went back by one
back : (r1 r2 r3 : DeviceEnd) → r1.next_avail < 65536 →
    r2 ≡ record r1 { next_avail = (r1.next_avail + 1) % 65536 } →
    r3 ≡ record r2 { next_avail = (r2.next_avail + 65535) % 65536 } → r3 ≡ r1
back r1 r2 r3 small e f = search (arith)

pub next_wrong : (q : ℕ) (mem : Pages) (r1 r2 r3 : DeviceEnd) (taken : List Request)
    (l : LastStatistics) (t : Taken) (f : ChainFault) → IsOpen q r1 taken
    → PopsBy mem r1 r2 (Ok (Some t)) → request_of q r1.size mem t.chain ≡ Err f
    → r3 ≡ record r2 { next_avail = (r2.next_avail + 65535) % 65536 }
    → TakesNext q mem (at q r1 taken) (at q r3 taken) l l (Err (Broken (rule_of f)))
next_wrong q mem r1 r2 r3 taken l t f may pops is undone =
    let same : at q r3 taken ≡ at q r1 taken =
    ap (λ r. at q r taken) (back r1 r2 r3 pops.is_end.next_avail pops.state undone) in record {
      busy = λ b. absurd (true_false (sym b ∙ may.0));
      empty = λ k e. absurd (ok_some_none t (Ok (Some t)) refl (pops.none may.1 e));
      jump = λ g k e. absurd (ok_err (Some t) g (pops.jump g may.1 e));
      fault = λ h g k e gives. absurd (ok_err (Some t) g (pops.fault h g may.1 e gives));
      wrong = λ h pieces g k e gives bad. (
        ap broken (same_fault (request_of q r1.size mem t.chain) f g is
            (ap (request_of q r1.size mem) (pops.chain h pieces may.1 e gives).1 ∙ bad)),
        same,
        refl,
      );
      takes = λ h pieces pages k e gives good. absurd (err_ok pages f (sym is ∙
          (ap (request_of q r1.size mem) (pops.chain h pieces may.1 e gives).1 ∙ good)));
      means = (may.0, same, refl);
    }

pub next_right : (q : ℕ) (mem : Pages) (r1 r2 : DeviceEnd) (taken : List Request)
    (l1 l2 : LastStatistics) (t : Taken) (pages : List ℕ) → IsOpen q r1 taken
    → PopsBy mem r1 r2 (Ok (Some t)) → request_of q r1.size mem t.chain ≡ Ok pages
    → l2 ≡ noted q mem t.chain l1 → TakesNext q mem (at q r1 taken)
    (at q r2 (taken ++ record { head = t.head; pages = pages; visited = 0 } ∷ [])) l1 l2
    (Ok (Some t.head))
next_right q mem r1 r2 taken l1 l2 t pages may pops is said =
    let after : at q r2 (taken ++ record { head = t.head; pages = pages; visited = 0 } ∷ []) ≡
    with_request t.head pages (at q r1 taken) =
    ap (λ r. at q r (taken ++ record { head = t.head; pages = pages; visited = 0 } ∷ []))
    pops.state in record {
      busy = λ b. absurd (true_false (sym b ∙ may.0));
      empty = λ k e. absurd (ok_some_none t (Ok (Some t)) refl (pops.none may.1 e));
      jump = λ g k e. absurd (ok_err (Some t) g (pops.jump g may.1 e));
      fault = λ h g k e gives. absurd (ok_err (Some t) g (pops.fault h g may.1 e gives));
      wrong = λ h pieces g k e gives bad. absurd (ok_err pages g (sym is ∙
          (ap (request_of q r1.size mem) (pops.chain h pieces may.1 e gives).1 ∙ bad)));
      takes = λ h pieces ps k e gives good. let chain = pops.chain h pieces may.1 e gives in (
        ap (λ n. Ok (Some n)) chain.0,
        after ∙ (ap (λ n. with_request n pages (at q r1 taken)) chain.0 ∙
            ap (λ xs. with_request h xs (at q r1 taken))
            (same_pages (request_of q r1.size mem t.chain) pages ps is
            (ap (request_of q r1.size mem) chain.1 ∙ good))),
        said ∙ ap (λ xs. noted q mem xs l1) chain.1,
      );
      means = (may.0, (pages, t.chain, pops.found.1, pops.found.2, is, after, said));
    }

-- a list of one
pub one_all : {A : Type 0} (P : A → Type 0) (x : A) → P x → (k : ℕ) (d : A) → k < length (x ∷ []) →
    P (get_or (x ∷ []) k d)
one_all P x here zero d lt = here
one_all P x here (suc k) d lt = absurd (omega arith)
