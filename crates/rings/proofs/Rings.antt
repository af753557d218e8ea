-- What the stores of link and unlink do to the rings of a memory.
use Rattle.std.specs.Prelude.{◌≡◌, ◌≢◌, ◌+◌, ◌<◌, ◌≤◌, ◌∷◌}
use Rattle.laws.specs.Kit.{refl, sym, ◌∙◌, ℕ, arith, List, [], length, set, length-set}
use Rattle.laws.specs.Frames.{on, off}
use Rattle.rings.specs.Rings.{nx, pv, Linked, Out, Below, linkedW, unlinkedW, Kept, LinkedTo, UnlinkedFrom}
use Rattle.rings.proofs.Lists.{out_append, below_append, distinct_snoc, out_without, below_without, distinct_without}
use Rattle.rings.proofs.Chains.{Link, Unlink, back, link_own, link_other, unlink_own}

-- a chain's last code is one of its codes, or where it starts
pub last_below : (f g : ℕ → ℕ) (n : ℕ) (l : List ℕ) (a z : ℕ) → Linked f g a l z → a < n → Below n l → g z < n
last_below f g n [] a z h an b = rw h.1 an
last_below f g n (x ∷ l) a z h an b = last_below f g n l x z h.2 b.0 b.1

pub last_out : (f g : ℕ → ℕ) (c : ℕ) (l : List ℕ) (a z : ℕ) → Linked f g a l z → a ≢ c → Out c l → g z ≢ c
last_out f g c [] a z h ac o = rw h.1 ac
last_out f g c (x ∷ l) a z h ac o = last_out f g c l x z h.2 o.0 o.1

module _ (w : List ℕ) (b n c t : ℕ) (fits : b + n + n ≤ length w) (cn : c < n) (tn : t < n) (pn : pv w b n t < n) where
  link_kept : Kept w (linkedW w b n c t) b n
  unfolding linkedW
  link_kept =
      let q = pv w b n t in
      let w1 = set w (b + q) c in
      let w2 = set w1 (b + c) t in
      let w3 = set w2 (b + n + c) q in
      record {
        len = simp length-set;
        low = λ i h. off w3 (b + n + t) c i (omega arith) ∙ off w2 (b + n + c) q i (omega arith) ∙ off w1 (b + c) t i (omega arith) ∙ off w (b + q) c i (omega arith);
        high = λ i h. off w3 (b + n + t) c i (omega arith) ∙ off w2 (b + n + c) q i (omega arith) ∙ off w1 (b + c) t i (omega arith) ∙ off w (b + q) c i (omega arith);
      }

  link_does : c ≢ t → pv w b n t ≢ c → Link n (nx w b) (pv w b n) (nx (linkedW w b n c t) b) (pv (linkedW w b n c t) b n) c t
  unfolding linkedW
  link_does ct pc =
      let q = pv w b n t in
      let w1 = set w (b + q) c in
      let w2 = set w1 (b + c) t in
      let w3 = set w2 (b + n + c) q in
      let l1 : length w1 ≡ length w = simp length-set in
      let l2 : length w2 ≡ length w = simp length-set in
      let l3 : length w3 ≡ length w = simp length-set in
      record {
        f_p = off w3 (b + n + t) c (b + q) (omega arith) ∙ off w2 (b + n + c) q (b + q) (omega arith) ∙ off w1 (b + c) t (b + q) (omega arith) ∙ on w (b + q) c (omega arith);
        f_c = off w3 (b + n + t) c (b + c) (omega arith) ∙ off w2 (b + n + c) q (b + c) (omega arith) ∙ on w1 (b + c) t (omega arith);
        f_o = λ i h u v. off w3 (b + n + t) c (b + i) (omega arith) ∙ off w2 (b + n + c) q (b + i) (omega arith) ∙ off w1 (b + c) t (b + i) (omega arith) ∙ off w (b + q) c (b + i) (omega arith);
        g_c = off w3 (b + n + t) c (b + n + c) (omega arith) ∙ on w2 (b + n + c) q (omega arith);
        g_t = on w3 (b + n + t) c (omega arith);
        g_o = λ i h u v. off w3 (b + n + t) c (b + n + i) (omega arith) ∙ off w2 (b + n + c) q (b + n + i) (omega arith) ∙ off w1 (b + c) t (b + n + i) (omega arith) ∙ off w (b + q) c (b + n + i) (omega arith);
      }

  pub linked_to : LinkedTo w (linkedW w b n c t) b n c t
  linked_to =
      record {
        text = refl;
        kept = link_kept;
        own = λ l r o ct.
            let k = link_does ct (last_out (nx w b) (pv w b n) c l t t r.linked (λ e. ct (sym e)) o) in
            record {
              linked = link_own k l t (back (nx w b) (pv w b n) l t t r.linked) r.linked tn r.below (λ e. ct (sym e)) o r.apart;
              distinct = distinct_snoc l c r.distinct o;
              below = below_append n l (c ∷ []) r.below ((cn, tt));
              apart = out_append t l (c ∷ []) r.apart ((ct, tt));
              here = tn;
            };
        other = λ m s om ct l z r zt tl o zc.
            let k = link_does ct (last_out (nx w b) (pv w b n) c m t t s.linked (λ e. ct (sym e)) om) in
            record {
              linked = link_other k l z z (back (nx w b) (pv w b n) m t t s.linked) r.linked r.here r.here r.below zc o zc tl zt;
              distinct = r.distinct;
              below = r.below;
              apart = r.apart;
              here = r.here;
            };
      }

module _ (w : List ℕ) (b n c : ℕ) (fits : b + n + n ≤ length w) (cn : c < n) (pn : pv w b n c < n) (nn : nx w b c < n) where
  unlink_kept : Kept w (unlinkedW w b n c) b n
  unfolding unlinkedW
  unlink_kept =
      let q = pv w b n c in
      let x = nx w b c in
      let w1 = set w (b + q) x in
      record {
        len = simp length-set;
        low = λ i h. off w1 (b + n + x) q i (omega arith) ∙ off w (b + q) x i (omega arith);
        high = λ i h. off w1 (b + n + x) q i (omega arith) ∙ off w (b + q) x i (omega arith);
      }

  unlink_does : Unlink n (nx w b) (pv w b n) (nx (unlinkedW w b n c) b) (pv (unlinkedW w b n c) b n) c
  unfolding unlinkedW
  unlink_does =
      let q = pv w b n c in
      let x = nx w b c in
      let w1 = set w (b + q) x in
      let l1 : length w1 ≡ length w = simp length-set in
      record {
        f_p = off w1 (b + n + x) q (b + q) (omega arith) ∙ on w (b + q) x (omega arith);
        f_o = λ i h u. off w1 (b + n + x) q (b + i) (omega arith) ∙ off w (b + q) x (b + i) (omega arith);
        g_n = on w1 (b + n + x) q (omega arith);
        g_o = λ i h u. off w1 (b + n + x) q (b + n + i) (omega arith) ∙ off w (b + q) x (b + n + i) (omega arith);
      }

  pub unlinked_from : nx w b (pv w b n c) ≡ c → pv w b n (nx w b c) ≡ c → UnlinkedFrom w (unlinkedW w b n c) b n c
  unlinked_from s s' =
      record {
        text = refl;
        kept = unlink_kept;
        rings = λ l z r zc.
            record {
              linked = unlink_own unlink_does s s' l z z r.linked r.distinct r.here r.here r.below zc zc;
              distinct = distinct_without c l r.distinct;
              below = below_without c n l r.below;
              apart = out_without c z l r.apart;
              here = r.here;
            };
      }
