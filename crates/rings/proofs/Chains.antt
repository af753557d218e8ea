-- Linked chains: what a link and an unlink do to one.
use Rattle.std.specs.Prelude.{◌≡◌, ◌<◌, ◌∷◌, ◌++◌}
use Rattle.laws.specs.Kit.{sym, ◌∙◌, ap, subst, ℕ, List, []}
use Rattle.rings.specs.Rings.{Linked, Out, Distinct, Below, without}
use Rattle.rings.proofs.Lists.{Same, same, differ, decide, without_hit, without_miss, without_out}

-- next and prev after c was put before t
pub record Link (n : ℕ) (f g f' g' : ℕ → ℕ) (c t : ℕ) : Type 0 where
  pub f_p : f' (g t) ≡ c
  pub f_c : f' c ≡ t
  pub f_o : (i : ℕ) → i < n → (i ≡ g t → ⊥) → (i ≡ c → ⊥) → f' i ≡ f i
  pub g_c : g' c ≡ g t
  pub g_t : g' t ≡ c
  pub g_o : (i : ℕ) → i < n → (i ≡ c → ⊥) → (i ≡ t → ⊥) → g' i ≡ g i

-- next and prev after c was taken out
pub record Unlink (n : ℕ) (f g f' g' : ℕ → ℕ) (c : ℕ) : Type 0 where
  pub f_p : f' (g c) ≡ f c
  pub f_o : (i : ℕ) → i < n → (i ≡ g c → ⊥) → f' i ≡ f i
  pub g_n : g' (f c) ≡ g c
  pub g_o : (i : ℕ) → i < n → (i ≡ f c → ⊥) → g' i ≡ g i

pub back : (f g : ℕ → ℕ) (l : List ℕ) (a z : ℕ) → Linked f g a l z → f (g z) ≡ z
back f g [] a z h = cc
back f g (x ∷ l) a z h = back f g l x z h.2

first : (f g : ℕ → ℕ) (l : List ℕ) (a z : ℕ) → Linked f g a l z → g (f a) ≡ a
first f g [] a z h = cc
first f g (x ∷ l) a z h = cc

-- both ways at a code of the chain
pub both : (f g : ℕ → ℕ) (l : List ℕ) (a z c : ℕ) → Linked f g a l z → (Out c l → ⊥) → (f (g c) ≡ c) × (g (f c) ≡ c)
both f g [] a z c h i = absurd (i tt)
both f g (x ∷ l) a z c h i = go (decide x c) (λ j. both f g l x z c h.2 j)
  where
    go : Same x c → ((Out c l → ⊥) → (f (g c) ≡ c) × (g (f c) ≡ c)) → (f (g c) ≡ c) × (g (f c) ≡ c)
    go (same e) r = (let u : g x ≡ a = h.1 in let v : f a ≡ x = h.0 in (cc), cc (first f g l x z h.2))
    go (differ e) r = r (λ o. i (e, o))

module _ {n : ℕ} {f g f' g' : ℕ → ℕ} {c t : ℕ} (k : Link n f g f' g' c t) where
  pub link_own : (l : List ℕ) (a : ℕ) → f (g t) ≡ t → Linked f g a l t → a < n → Below n l → (a ≡ c → ⊥) → Out c l → Out t l
      → Linked f' g' a (l ++ c ∷ []) t
  link_own [] a s h an b ac o p =
      let e : g t ≡ a = h.1 in
      (subst (λ (i : ℕ). f' i ≡ c) e k.f_p, k.g_c ∙ e, (k.f_c, k.g_t))
  link_own (x ∷ l) a s h an b ac o p =
      let e : f a ≡ x = h.0 in (
        k.f_o a an (λ q. p.0 (sym e ∙ ap f q ∙ s)) ac ∙ e,
        k.g_o x b.0 o.0 p.0 ∙ h.1,
        link_own l x s h.2 b.0 b.1 o.0 o.1 p.1,
      )

  pub link_other : (l : List ℕ) (a z : ℕ) → f (g t) ≡ t → Linked f g a l z → a < n → z < n → Below n l → (a ≡ c → ⊥) → Out c l → (z ≡ c → ⊥)
      → Out t l → (z ≡ t → ⊥) → Linked f' g' a l z
  link_other [] a z s h an zn b ac o zc p zt =
      let e : f a ≡ z = h.0 in
      (k.f_o a an (λ q. zt (sym e ∙ ap f q ∙ s)) ac ∙ e, k.g_o z zn zc zt ∙ h.1)
  link_other (x ∷ l) a z s h an zn b ac o zc p zt =
      let e : f a ≡ x = h.0 in (
        k.f_o a an (λ q. p.0 (sym e ∙ ap f q ∙ s)) ac ∙ e,
        k.g_o x b.0 o.0 p.0 ∙ h.1,
        link_other l x z s h.2 b.0 zn b.1 o.0 o.1 zc p.1 zt,
      )

module _ {n : ℕ} {f g f' g' : ℕ → ℕ} {c : ℕ} (k : Unlink n f g f' g' c) (s : f (g c) ≡ c) (s' : g (f c) ≡ c) where
  pub unlink_out : (l : List ℕ) (a z : ℕ) → Linked f g a l z → a < n → z < n → Below n l → (a ≡ c → ⊥) → (z ≡ c → ⊥) → Out c l → Linked f' g' a l z
  unlink_out [] a z h an zn b ac zc o =
      let e : f a ≡ z = h.0 in
      let d : g z ≡ a = h.1 in
      (k.f_o a an (λ q. zc (sym e ∙ ap f q ∙ s)) ∙ e, k.g_o z zn (λ q. ac (sym d ∙ ap g q ∙ s')) ∙ d)
  unlink_out (x ∷ l) a z h an zn b ac zc o =
      let e : f a ≡ x = h.0 in
      let d : g x ≡ a = h.1 in (
        k.f_o a an (λ q. o.0 (sym e ∙ ap f q ∙ s)) ∙ e,
        k.g_o x b.0 (λ q. ac (sym d ∙ ap g q ∙ s')) ∙ d,
        unlink_out l x z h.2 b.0 zn b.1 o.0 zc o.1,
      )

  -- the chain from c, with c's place taken by a
  unlink_at : (l : List ℕ) (a z : ℕ) → Linked f g c l z → g c ≡ a → z < n → Below n l → (z ≡ c → ⊥) → Out c l → Linked f' g' a l z
  unlink_at [] a z h d zn b zc o = (let u : f' (g c) ≡ f c = k.f_p in let v : f c ≡ z = h.0 in (cc), let u : g' (f c) ≡ g c = k.g_n in let v : f c ≡ z = h.0 in cc)
  unlink_at (x ∷ l) a z h d zn b zc o = (
    let u : f' (g c) ≡ f c = k.f_p in let v : f c ≡ x = h.0 in (cc),
    let u : g' (f c) ≡ g c = k.g_n in let v : f c ≡ x = h.0 in (cc),
    unlink_out l x z h.2 b.0 zn b.1 o.0 zc o.1,
  )

  pub unlink_own : (l : List ℕ) (a z : ℕ) → Linked f g a l z → Distinct l → a < n → z < n → Below n l → (a ≡ c → ⊥) → (z ≡ c → ⊥)
      → Linked f' g' a (without c l) z
  unfolding without
  unlink_own [] a z h d an zn b ac zc = unlink_out [] a z h an zn b ac zc tt
  unlink_own (x ∷ l) a z h d an zn b ac zc = go (decide x c) (λ q. unlink_own l x z h.2 d.1 b.0 zn b.1 q zc)
    where
      go : Same x c → ((x ≡ c → ⊥) → Linked f' g' x (without c l) z) → Linked f' g' a (without c (x ∷ l)) z
      go (same q) w =
          let o : Out c l = subst (λ (y : ℕ). Out y l) q d.0 in
          rw (without_hit c x l q, without_out c l o)
          (unlink_at l a z (subst (λ (y : ℕ). Linked f g y l z) q h.2) (subst (λ (y : ℕ). g y ≡ a) q h.1) zn b.1 zc o)
      go (differ q) w =
          let e : f a ≡ x = h.0 in
          let p : g x ≡ a = h.1 in
          rw (without_miss c x l q)
          ((
            k.f_o a an (λ r. q (sym e ∙ ap f r ∙ s)) ∙ e,
            k.g_o x b.0 (λ r. ac (sym p ∙ ap g r ∙ s')) ∙ p,
            w q,
          ))
