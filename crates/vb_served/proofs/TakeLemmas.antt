-- What a take is, by what the guest's bytes say next.
use Rattle.std.proofs.Common.{◌≡◌, ◌∙◌, ap, sym, subst, refl, ℕ, List, Option, Some, None}
use Rattle.std.proofs.Common.{Result, Ok, Err}
use Rattle.vb_virtio.specs.declared.refusals.Refusal.{Refusal}
use Rattle.vb_virtio.specs.declared.refusals.Refusal.TheVariants.{Broken}
use Rattle.vb_ram.specs.{Pages.Pages, Part.Part}
use Rattle.vb_chain.specs.declared.{fault.ChainFault.ChainFault, pieces.Piece.Piece}
use Rattle.vb_chain.{proofs.Unique.{chain_is_one, chain_or_fault, fault_is_one}}
use Rattle.vb_request.specs.{Asked.request_of, Refusals.rule_of}
use Rattle.vb_device.specs.Calls.{HasChain, HasFault, TakesBy, noting, taking}
use Rattle.vb_device.specs.{Conditions.take_refusal, Faults.{Breaks, needing_reset}, Queues.next_available}

clash : {A : Type 0} (o : Option A) (x : A) → o ≡ None → o ≡ Some x → ⊥
clash o x e f = let bad : None ≡ Some x = sym e ∙ f in cc

-- two answers of what is next
abbrev Next : Type 0
Next = Result (Option ℕ) ChainFault

none_some : (n : Next) (h : ℕ) → n ≡ Ok None → n ≡ Ok (Some h) → ⊥
none_some n h e f = let bad : Ok None ≡ Ok (Some h) = sym e ∙ f in cc

none_fault : (n : Next) (f : ChainFault) → n ≡ Ok None → n ≡ Err f → ⊥
none_fault n f e g = let bad : Ok None ≡ Err f = sym e ∙ g in cc

some_fault : (n : Next) (h : ℕ) (f : ChainFault) → n ≡ Ok (Some h) → n ≡ Err f → ⊥
some_fault n h f e g = let bad : Ok (Some h) ≡ Err f = sym e ∙ g in cc

same_head : (n : Next) (h k : ℕ) → n ≡ Ok (Some h) → n ≡ Ok (Some k) → h ≡ k
same_head n h k e f = let both : Ok (Some h) ≡ Ok (Some k) = sym e ∙ f in cc

same_fault : (n : Next) (f g : ChainFault) → n ≡ Err f → n ≡ Err g → f ≡ g
same_fault n f g e h = let both : Err f ≡ Err g = sym e ∙ h in cc

abbrev answer_to : ChainFault → Result (Option ℕ) Refusal
answer_to f = Err (Broken (rule_of f))

broken_so : (f g : ChainFault) (p : Part) → f ≡ g → Breaks g p (needing_reset p) (answer_to f)
broken_so f g p e = record { answer = ap answer_to e; part = refl }

pub takes_none : (q : ℕ) (mem : Pages) (p : Part) → take_refusal q p ≡ None →
    next_available q mem p ≡ Ok None → TakesBy q mem mem p p (Ok None)
takes_none q mem p open_so n = record {
  memory = refl;
  refused = λ why e. absurd (clash _ why open_so e);
  empty = λ e f. (refl, refl);
  jump = λ f e g. absurd (none_fault _ f n g);
  fault = λ h f e g has. absurd (none_some _ h n g);
  wrong = λ h ps f e g has r. absurd (none_some _ h n g);
  takes = λ h ps pages e g has r. absurd (none_some _ h n g);
  means = (open_so, refl);
}

pub takes_jump : (q : ℕ) (mem : Pages) (p : Part) (fault : ChainFault) → take_refusal q p ≡ None →
    next_available q mem p ≡ Err fault → TakesBy q mem mem p (needing_reset p) (answer_to fault)
takes_jump q mem p fault open_so n = record {
  memory = refl;
  refused = λ why e. absurd (clash _ why open_so e);
  empty = λ e f. absurd (none_fault _ fault f n);
  jump = λ f e g. broken_so fault f p (same_fault _ fault f n g);
  fault = λ h f e g has. absurd (some_fault _ h fault g n);
  wrong = λ h ps f e g has r. absurd (some_fault _ h fault g n);
  takes = λ h ps pages e g has r. absurd (some_fault _ h fault g n);
  means = (open_so, refl);
}

-- on the way along the chain
pub takes_fault : (q h : ℕ) (mem : Pages) (p : Part) (fault : ChainFault) → take_refusal q p ≡ None →
    next_available q mem p ≡ Ok (Some h) → HasFault q mem p h fault →
    TakesBy q mem mem p (needing_reset p) (answer_to fault)
takes_fault q h mem p fault open_so n is = record {
  memory = refl;
  refused = λ why e. absurd (clash _ why open_so e);
  empty = λ e f. absurd (none_some _ h f n);
  jump = λ f e g. absurd (some_fault _ h f n g);
  fault = λ k f e g has. broken_so fault f p (fault_is_one _ _ _ h fault f is
      (subst (λ (j : ℕ). HasFault q mem p j f) (sym (same_head _ h k n g)) has));
  wrong = λ k ps f e g has r. absurd (chain_or_fault _ _ _ h ps fault
      (subst (λ (j : ℕ). HasChain q mem p j ps) (sym (same_head _ h k n g)) has) is);
  takes = λ k ps pages e g has r. absurd (chain_or_fault _ _ _ h ps fault
      (subst (λ (j : ℕ). HasChain q mem p j ps) (sym (same_head _ h k n g)) has) is);
  means = (open_so, refl);
}

-- two answers of what the chain asks
right_wrong : (o : Result (List ℕ) ChainFault) (ps : List ℕ) (f : ChainFault) → o ≡ Ok ps →
    o ≡ Err f → ⊥
right_wrong o ps f e g = let bad : Ok ps ≡ Err f = sym e ∙ g in cc

same_wrong : (o : Result (List ℕ) ChainFault) (f g : ChainFault) → o ≡ Err f → o ≡ Err g → f ≡ g
same_wrong o f g e h = let both : Err f ≡ Err g = sym e ∙ h in cc

same_right : (o : Result (List ℕ) ChainFault) (xs ys : List ℕ) → o ≡ Ok xs → o ≡ Ok ys → xs ≡ ys
same_right o xs ys e h = let both : Ok xs ≡ Ok ys = sym e ∙ h in cc

-- the pieces of the chain are these
abbrev its_pieces : (q h k : ℕ) (mem : Pages) (p : Part) (xs ys : List Piece) → HasChain q mem p h xs →
    h ≡ k → HasChain q mem p k ys → xs ≡ ys
its_pieces q h k mem p xs ys is e has = chain_is_one _ _ _ h xs ys is
    (subst (λ (j : ℕ). HasChain q mem p j ys) (sym e) has)

pub takes_wrong : (q h : ℕ) (mem : Pages) (p : Part) (pieces : List Piece) (fault : ChainFault) →
    take_refusal q p ≡ None → next_available q mem p ≡ Ok (Some h) → HasChain q mem p h pieces →
    request_of q p.queue_size mem pieces ≡ Err fault →
    TakesBy q mem mem p (needing_reset p) (answer_to fault)
takes_wrong q h mem p pieces fault open_so n is asks = record {
  memory = refl;
  refused = λ why e. absurd (clash _ why open_so e);
  empty = λ e f. absurd (none_some _ h f n);
  jump = λ f e g. absurd (some_fault _ h f n g);
  fault = λ k f e g has. absurd (chain_or_fault _ _ _ h pieces f is
      (subst (λ (j : ℕ). HasFault q mem p j f) (sym (same_head _ h k n g)) has));
  wrong = λ k ps f e g has r. broken_so fault f p (same_wrong _ fault f asks
      (ap (λ (xs : List Piece). request_of q p.queue_size mem xs)
      (its_pieces q h k mem p pieces ps is (same_head _ h k n g) has) ∙ r));
  takes = λ k ps pages e g has r. absurd (right_wrong _ pages fault r
      (ap (λ (xs : List Piece). request_of q p.queue_size mem xs)
      (sym (its_pieces q h k mem p pieces ps is (same_head _ h k n g) has)) ∙ asks));
  means = (open_so, refl);
}

pub takes_right : (q h : ℕ) (mem : Pages) (p : Part) (pieces : List Piece) (pages : List ℕ) →
    take_refusal q p ≡ None → next_available q mem p ≡ Ok (Some h) → HasChain q mem p h pieces →
    request_of q p.queue_size mem pieces ≡ Ok pages →
    TakesBy q mem mem p (taking q h pages (noting q mem pieces p)) (Ok (Some h))
takes_right q h mem p pieces pages open_so n is asks = record {
  memory = refl;
  refused = λ why e. absurd (clash _ why open_so e);
  empty = λ e f. absurd (none_some _ h f n);
  jump = λ f e g. absurd (some_fault _ h f n g);
  fault = λ k f e g has. absurd (chain_or_fault _ _ _ h pieces f is
      (subst (λ (j : ℕ). HasFault q mem p j f) (sym (same_head _ h k n g)) has));
  wrong = λ k ps f e g has r. absurd (right_wrong _ pages f asks
      (ap (λ (xs : List Piece). request_of q p.queue_size mem xs)
      (its_pieces q h k mem p pieces ps is (same_head _ h k n g) has) ∙ r));
  takes = λ k ps others e g has r.
      let heads : h ≡ k = same_head _ h k n g in
      let lists : pieces ≡ ps = its_pieces q h k mem p pieces ps is heads has in
      let asked : pages ≡ others = same_right _ pages others asks
      (ap (λ (xs : List Piece). request_of q p.queue_size mem xs) lists ∙ r) in (
        ap (λ (j : ℕ). Ok (Some j)) heads,
        ap (λ (j : ℕ). taking q j pages (noting q mem pieces p)) heads
            ∙ (ap (λ (xs : List ℕ). taking q k xs (noting q mem pieces p)) asked
            ∙ ap (λ (xs : List Piece). taking q k others (noting q mem xs p)) lists),
      );
  means = (
    open_so,
    (pages, record { next = n; pieces = pieces; chain = is; request = asks }, refl),
  );
}
