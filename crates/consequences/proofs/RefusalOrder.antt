-- The refusals of a call in their order: where the test of an earlier number holds, a later number does not come up.
use Rattle.std.specs.Prelude.{◌≡◌, ◌≢◌, ◌∷◌}
use Rattle.laws.specs.Kit.{◌∙◌, ap, Bool, true, cond, Option, some, ℕ, arith, List}
use Rattle.definition.specs.Lists.{find}
use Rattle.definition.specs.Call.{Asked, Lent, bad_quality, unknown_node, far_point, bad_grid, conditions}
use Rattle.laws.specs.Bools.{cond_ok, never}
use Rattle.consequences.specs.RefusalOrder.{NotBy}

-- a condition with another number is passed, whether it holds or not
passed_by : (k : ℕ) (c : ℕ × Bool) (cs : List (ℕ × Bool)) → c.0 ≢ k → NotBy k (find (λ d. d.1) cs) → NotBy k (find (λ d. d.1) (c ∷ cs))
unfolding find
passed_by k c cs other rest = cond_ok (NotBy k) c.1 (some c) (find (λ d. d.1) cs) (λ z x e n. let y : c ≡ x = cc in other (ap (λ d. d.0) y ∙ n)) (λ z. rest)

-- one that holds ends the search
stops_at : (k : ℕ) (c : ℕ × Bool) (cs : List (ℕ × Bool)) → c.0 ≢ k → c.1 ≡ true → NotBy k (find (λ d. d.1) (c ∷ cs))
unfolding find
stops_at k c cs other holds = cond_ok (NotBy k) c.1 (some c) (find (λ d. d.1) cs) (λ z x e n. let y : c ≡ x = cc in other (ap (λ d. d.0) y ∙ n)) (λ z. absurd (never c.1 holds z))

module _ (a : Asked) (l : Lent) where
  -- the number of the call's refusal is not this one
  abbrev pub NotRefusedWith : ℕ → Type 0
  NotRefusedWith k = NotBy k (find (λ d. d.1) (conditions a l))

  -- a node that is not there: not 6
  pub five_before_six : unknown_node a l ≡ true → NotRefusedWith 6
  unfolding conditions
  five_before_six h =
      passed_by _ _ _ (λ e. omega (arith, e)) (passed_by _ _ _ (λ e. omega (arith, e)) (passed_by _ _ _ (λ e. omega (arith, e)) (passed_by _ _ _ (λ e. omega (arith, e))
      (passed_by _ _ _ (λ e. omega (arith, e)) (stops_at _ _ _ (λ e. omega (arith, e)) h)))))

  -- a bad quality set: not 4
  pub fourteen_before_four : bad_quality a ≡ true → NotRefusedWith 4
  unfolding conditions
  fourteen_before_four h =
      passed_by _ _ _ (λ e. omega (arith, e)) (passed_by _ _ _ (λ e. omega (arith, e)) (passed_by _ _ _ (λ e. omega (arith, e)) (stops_at _ _ _ (λ e. omega (arith, e)) h)))

  -- a point too far: not 13
  pub seven_before_thirteen : far_point a l ≡ true → NotRefusedWith 13
  unfolding conditions
  seven_before_thirteen h =
      passed_by _ _ _ (λ e. omega (arith, e)) (passed_by _ _ _ (λ e. omega (arith, e)) (passed_by _ _ _ (λ e. omega (arith, e)) (passed_by _ _ _ (λ e. omega (arith, e)) (passed_by _ _ _ (λ e. omega (arith, e)) (passed_by _ _ _ (λ e. omega (arith, e)) (passed_by _ _ _ (λ e. omega (arith, e)) (stops_at _ _ _ (λ e. omega (arith, e)) h)))))))

  -- a point off the grid: not 13
  pub fifteen_before_thirteen : bad_grid a l ≡ true → NotRefusedWith 13
  unfolding conditions
  fifteen_before_thirteen h =
      passed_by _ _ _ (λ e. omega (arith, e)) (passed_by _ _ _ (λ e. omega (arith, e)) (passed_by _ _ _ (λ e. omega (arith, e)) (passed_by _ _ _ (λ e. omega (arith, e)) (passed_by _ _ _ (λ e. omega (arith, e)) (passed_by _ _ _ (λ e. omega (arith, e)) (passed_by _ _ _ (λ e. omega (arith, e)) (passed_by _ _ _ (λ e. omega (arith, e)) (stops_at _ _ _ (λ e. omega (arith, e)) h))))))))
