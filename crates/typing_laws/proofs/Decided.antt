-- Which demands are kept is decided in order.
use Rattle.std.proofs.Common.{◌≡◌, ℕ, zero, suc, ◌≤◌, Bool, true, false, ◌||◌, ◌&&◌, ◌==◌, Option, Some, None, List, [], ◌∷◌, length, refl, sym, ◌∙◌, ap, subst, inl, inr, arith}
use Rattle.std.proofs.Math.Path.{fun_ext}
use Rattle.type_model.proofs.Applying.{or_cases, or_left, or_right, eqb_same}
use Rattle.tree_model.specs.Trees.{Tree}
use Rattle.signature_model.specs.Signatures.{Signature}
use Rattle.signature_model.specs.Entries.{Environment}
use Rattle.typing_model.specs.Demands.{Site, same_site, Demand, equal, test, agrees, matches, closes, Condition, demand, sites_of}
use Rattle.typing_model.specs.Typings.{conditions_of, no_choice, demands_of, is_site_among, sites_before, kept_before, kept_with, body_in, body_at, is_closing, IsMetUpTo, IsKept}
use Rattle.typing_laws.proofs.Bools.{no_yes, and_both}
use Rattle.typing_laws.proofs.Together.{Kept, is_end, Together, at_end, at_demand, at_same, at_instance, at_made, at_known, at_treated}
use Rattle.typing_laws.proofs.SteadyTexts.{text_together}

-- where both keep the same demands before one, it is kept by the second if it is by the first
both_keep : (env : Environment) (text : List Tree) (kept others : Site → Bool) (s : Site) → IsKept env text kept → IsKept env text others → is_site_among s (demands_of env text others) ≡ true →
    is_closing env text others s ≡ false → ((x : Site) → kept_before env text kept s x ≡ kept_before env text others s x) → kept s ≡ true → others s ≡ true
both_keep env text kept others s k o i c same h = by (others s) refl
  where
    met : IsMetUpTo env text (kept_with env text others s) s
    met = subst (λ m. IsMetUpTo env text m s) (fun_ext (λ x. ap (λ b. same_site s x || b) (same x))) (k.exists s h)

    by : (b : Bool) → others s ≡ b → others s ≡ true
    by true e = e
    by false e = absurd (o.fails s i c e met)

-- two tests of which each holds where the other does
alike : (a b : Bool) → (a ≡ true → b ≡ true) → (b ≡ true → a ≡ true) → a ≡ b
alike true b h k = sym (h refl)
alike false true h k = k refl
alike false false h k = refl

pub decided : (env : Environment) (text : List Tree) (kept others : Site → Bool) (s : Site) → IsKept env text kept → IsKept env text others →
    is_site_among s (demands_of env text kept) ≡ true → is_site_among s (demands_of env text others) ≡ true → is_closing env text kept s ≡ false → is_closing env text others s ≡ false →
    ((x : Site) → kept_before env text kept s x ≡ kept_before env text others s x) → kept s ≡ others s
decided env text kept others s k o i j c d same =
    alike (kept s) (others s) (both_keep env text kept others s k o j d same) (both_keep env text others kept s o k i c (λ x. sym (same x)))

-- a site before another has fewer before it
fewer : (x s : Site) (sites : List Site) → is_site_among x (sites_before s sites) ≡ true → suc (length (sites_before x sites)) ≤ length (sites_before s sites)
fewer x s [] i = absurd (no_yes i)
fewer x s (t ∷ ts) i = by (same_site s t) (fewer x s ts) i
  where
    at : (b : Bool) → same_site x t ≡ b → (is_site_among x (sites_before s ts) ≡ true → suc (length (sites_before x ts)) ≤ length (sites_before s ts)) →
        is_site_among x (t ∷ sites_before s ts) ≡ true → suc (length {A = Site} (elim b [ true ↦ [] | false ↦ t ∷ sites_before x ts ])) ≤ suc (length (sites_before s ts))
    at true e further j = omega arith
    at false e further j = let h = further (ap (λ b. b || is_site_among x (sites_before s ts)) (sym e) ∙ j) in omega arith

    by : (b : Bool) → (is_site_among x (sites_before s ts) ≡ true → suc (length (sites_before x ts)) ≤ length (sites_before s ts)) →
        is_site_among x (elim b [ true ↦ [] | false ↦ t ∷ sites_before s ts ]) ≡ true → suc (length (sites_before x (t ∷ ts))) ≤ length {A = Site} (elim b [ true ↦ [] | false ↦ t ∷ sites_before s ts ])
    by true further j = absurd (no_yes j)
    by false further j = at (same_site x t) refl further j

-- and is one of all
one_of_all : (x s : Site) (sites : List Site) → is_site_among x (sites_before s sites) ≡ true → is_site_among x sites ≡ true
one_of_all x s [] i = absurd (no_yes i)
one_of_all x s (t ∷ ts) i = by (same_site s t) (one_of_all x s ts) i
  where
    by : (b : Bool) → (is_site_among x (sites_before s ts) ≡ true → is_site_among x ts ≡ true) → is_site_among x (elim b [ true ↦ [] | false ↦ t ∷ sites_before s ts ]) ≡ true → is_site_among x (t ∷ ts) ≡ true
    by true further j = absurd (no_yes j)
    by false further j = elim (or_cases (same_site x t) (is_site_among x (sites_before s ts)) j) [ inl e ↦ or_left (same_site x t) (is_site_among x ts) e | inr h ↦ or_right (same_site x t) (is_site_among x ts) (further h) ]

and_false : (b c : Bool) → (b && false) ≡ (c && false)
and_false true true = refl
and_false true false = refl
and_false false true = refl
and_false false false = refl

-- whether there is a body
abbrev has_body : Option (Environment × Signature) → Bool
has_body o = elim o [ None ↦ false | Some b ↦ true ]

is_body : (d : Demand) → has_body (body_in d) ≡ is_end d
is_body (equal t u) = refl
is_body (test c b) = refl
is_body (agrees c n s t) = refl
is_body (matches a t) = refl
is_body (closes e s) = refl

same_as_itself : (s : Site) → same_site s s ≡ true
same_as_itself s = and_both (s.node == s.node) (s.number == s.number) (eqb_same s.node) (eqb_same s.number)

-- a demand up to which two lists of conditions are kept alike: it is asked by both, behind the same ones, and closes a body in both or in neither
pub record AskedAlike (s : Site) (cs ds : List Condition) : Type 0 where
  pub asked : is_site_among s (sites_of ds) ≡ true
  pub before : sites_before s (sites_of cs) ≡ sites_before s (sites_of ds)
  pub closing : has_body (body_at s cs) ≡ has_body (body_at s ds)

pub asked_alike : {k m : Kept} {cs ds : List Condition} (s : Site) → Together k m cs ds → is_site_among s (sites_of cs) ≡ true → ((x : Site) → is_site_among x (sites_before s (sites_of cs)) ≡ true → k x ≡ m x) → AskedAlike s cs ds
asked_alike s at_end i same = absurd (no_yes i)
asked_alike s (at_same h) i same = let r = asked_alike s h i same in record { asked = r.asked; before = r.before; closing = r.closing }
asked_alike s (at_instance h) i same = let r = asked_alike s h i same in record { asked = r.asked; before = r.before; closing = r.closing }
asked_alike s (at_made h) i same = let r = asked_alike s h i same in record { asked = r.asked; before = r.before; closing = r.closing }
asked_alike s (at_known h) i same = let r = asked_alike s h i same in record { asked = r.asked; before = r.before; closing = r.closing }
asked_alike s (at_treated h) i same = let r = asked_alike s h i same in record { asked = r.asked; before = r.before; closing = r.closing }
asked_alike {k} {m} s (at_demand {s = t} {p = p} {q = q} {d = d} {e = e} {cs = cs} {ds = ds} f g) i same = by (same_site s t) refl (λ a j again. asked_alike s (g a) j again)
  where
    by : (b : Bool) → same_site s t ≡ b → (k t ≡ m t → is_site_among s (sites_of cs) ≡ true → ((x : Site) → is_site_among x (sites_before s (sites_of cs)) ≡ true → k x ≡ m x) → AskedAlike s cs ds) → AskedAlike s (demand t p d ∷ cs) (demand t q e ∷ ds)
    by true h further = record {
      asked = or_left (same_site s t) (is_site_among s (sites_of ds)) h;
      before = rw (h, sites_before) refl;
      closing = rw (h, body_at) (is_body d ∙ f ∙ sym (is_body e));
    }
    by false h further =
        let first : k t ≡ m t = same t (rw (h, sites_before) (or_left (same_site t t) (is_site_among t (sites_before s (sites_of cs))) (same_as_itself t))) in
        let r = further first (rw h at i) (λ x j. same x (rw (h, sites_before) (or_right (same_site x t) (is_site_among x (sites_before s (sites_of cs))) j))) in
        record {
          asked = or_right (same_site s t) (is_site_among s (sites_of ds)) r.asked;
          before = rw (h, sites_before) (ap (λ xs. t ∷ xs) r.before);
          closing = rw (h, body_at) r.closing;
        }

-- where two sets decide the closings alike that they come to alike
abbrev pub DecideClosings : Environment → List Tree → (Site → Bool) → (Site → Bool) → Type 0
DecideClosings env text kept others = (s : Site) → is_closing env text kept s ≡ true → is_closing env text others s ≡ true → ((x : Site) → kept_before env text kept s x ≡ kept_before env text others s x) → kept s ≡ others s

-- at a demand before which two sets are one
one_behind : (env : Environment) (text : List Tree) (kept others : Site → Bool) → IsKept env text kept → IsKept env text others → DecideClosings env text kept others →
    (s : Site) → ((x : Site) → is_site_among x (sites_before s (demands_of env text kept)) ≡ true → kept x ≡ others x) → is_site_among s (demands_of env text kept) ≡ true → kept s ≡ others s
one_behind env text kept others k o closings s earlier i = which (is_closing env text kept s) refl
  where
    asked : List Site
    asked = demands_of env text kept

    both : AskedAlike s (conditions_of env text kept no_choice) (conditions_of env text others no_choice)
    both = asked_alike s (text_together {k = kept} {m = others} env text no_choice) i earlier

    there : (x : Site) (b : Bool) → is_site_among x (sites_before s asked) ≡ b → (kept x && b) ≡ (others x && b)
    there x true e = ap (λ c. c && true) (earlier x e)
    there x false e = and_false (kept x) (others x)

    before : (x : Site) → kept_before env text kept s x ≡ kept_before env text others s x
    before x = there x (is_site_among x (sites_before s asked)) refl ∙ ap (λ sites. others x && is_site_among x sites) both.before

    which : (b : Bool) → is_closing env text kept s ≡ b → kept s ≡ others s
    which true e = closings s e (sym both.closing ∙ e) before
    which false e = decided env text kept others s k o i both.asked e (sym both.closing ∙ e) before

-- at each demand with so many before it
one_at : (n : ℕ) (env : Environment) (text : List Tree) (kept others : Site → Bool) → IsKept env text kept → IsKept env text others → DecideClosings env text kept others →
    (s : Site) → length (sites_before s (demands_of env text kept)) ≤ n → is_site_among s (demands_of env text kept) ≡ true → kept s ≡ others s
one_at zero env text kept others k o closings s few i =
    one_behind env text kept others k o closings s (λ x j. absurd (let h = fewer x s (demands_of env text kept) j in omega arith)) i
one_at (suc n) env text kept others k o closings s few i =
    one_behind env text kept others k o closings s
    (λ x j. one_at n env text kept others k o closings x (let h = fewer x s (demands_of env text kept) j in omega arith) (one_of_all x s (demands_of env text kept) j)) i

-- so sets that decide closings alike are one
pub are_one : (env : Environment) (text : List Tree) (kept others : Site → Bool) → IsKept env text kept → IsKept env text others → DecideClosings env text kept others → (s : Site) → kept s ≡ others s
are_one env text kept others k o closings s = by (is_site_among s (demands_of env text kept)) refl (is_site_among s (demands_of env text others)) refl
  where
    by : (b : Bool) → is_site_among s (demands_of env text kept) ≡ b → (c : Bool) → is_site_among s (demands_of env text others) ≡ c → kept s ≡ others s
    by true e c f = one_at (length (sites_before s (demands_of env text kept))) env text kept others k o closings s (omega arith) e
    by false e true f = sym (one_at (length (sites_before s (demands_of env text others))) env text others kept o k (λ x g h same. sym (closings x h g (λ y. sym (same y)))) s (omega arith) f)
    by false e false f = alike (kept s) (others s) (λ h. absurd (no_yes (sym e ∙ k.only s h))) (λ h. absurd (no_yes (sym f ∙ o.only s h)))
