-- Which queues there are: those of inflates, of deflates, of statistics and of reports.
use Rattle.std.specs.Prelude.{◌≡◌, ◌≢◌, ℕ, Bool, false, ◌==◌, ◌||◌, is_some, if◌then◌else◌, Option}
use Rattle.std.{specs.Prelude.{Some, None, ◌⊎◌}, proofs.Common.{◌∙◌, ap, inl, inr}}
use Rattle.std.proofs.lemmas.Bool.{cases_eq, ne_eqb}
use Rattle.vb_virtio.specs.Queues.{Kind, Inflating, Deflating, Reporting_free, is_queue_of_requests}
use Rattle.vb_virtio.specs.Queues.{has_chains}

-- no queue has this number
pub record IsNoQueue (q : ℕ) : Type 0 where
  pub inflate : q ≢ 0
  pub deflate : q ≢ 1
  pub statistics : q ≢ 2
  pub report : q ≢ 4

pub queue_cases : (q : ℕ) → (q ≡ 0) ⊎ ((q ≡ 1) ⊎ ((q ≡ 2) ⊎ ((q ≡ 4) ⊎ IsNoQueue q)))
queue_cases q = elim (cases_eq q 0) [
  | inl e ↦ inl e
  | inr a ↦ elim (cases_eq q 1) [
    | inl e ↦ inr (inl e)
    | inr b ↦ elim (cases_eq q 2) [
      | inl e ↦ inr (inr (inl e))
      | inr c ↦ elim (cases_eq q 4) [
        | inl e ↦ inr (inr (inr (inl e)))
        | inr d ↦ inr (inr (inr (inr
            (record { inflate = a; deflate = b; statistics = c; report = d }))))
      ]
    ]
  ]
]

-- the kind of a queue, by whether it is queue 0, 1 or 4
abbrev kind_by : Bool → Bool → Bool → Option Kind
kind_by a b c = if a then Some Inflating
    else (if b then Some Deflating else (if c then Some Reporting_free else None))

pub no_requests_at : (q : ℕ) → IsNoQueue q → is_queue_of_requests q ≡ false
no_requests_at q other =
    ap (λ (a : Bool). is_some (kind_by a (q == 1) (q == 4))) (ne_eqb q 0 other.inflate)
    ∙ ap (λ (b : Bool). is_some (kind_by false b (q == 4))) (ne_eqb q 1 other.deflate)
    ∙ ap (λ (c : Bool). is_some (kind_by false false c)) (ne_eqb q 4 other.report)

pub no_chains_at : (q : ℕ) → IsNoQueue q → has_chains q ≡ false
no_chains_at q other =
    ap (λ (b : Bool). b || (q == 2)) (no_requests_at q other) ∙ ne_eqb q 2 other.statistics
