-- What is asked of a table, and where its rows begin.
use Rattle.std.proofs.Common.{◌≡◌, ℕ, ◌≤◌, Bool, true, false, List, [], ◌∷◌, ◌++◌, Some, refl, ◌∙◌, ap, subst, arith}
use Rattle.std.proofs.lemmas.Bool.{leb-true, le-leb}
use Rattle.token_model.specs.Kinds.{Tok}
use Rattle.grammar_model.specs.Keys.{key_of}
use Rattle.grammar_model.specs.Trees.{Tree, Forest, Part, node, no_parts, part, taken, inner, missing, row_of, yield_of, part_yield, forest_yield}
use Rattle.grammar_model.specs.Tables.{Table, is_text, What, nothing, token, operand, plain, row, has, begins_by, takes, at_spot, first_place}
use Rattle.grammar_model.specs.Grammar.{MayCome, StandsIn, left_last, BeginsWith, WellFormed, IsFilled, IsPartFormed, Leads, Proper, ProperNode, ProperPart}
use Rattle.grammar_model.specs.Machine.{first_of}

pub record Separate (G : Table) : Type 0 where
  pub chain_token : (r p k : ℕ) (ks : List ℕ) → G.has_left r ≡ false → MayCome (G.next r 0) plain p → G.what r p ≡ token ks → has ks k ≡ true → G.chain (G.sort r) k ≡ r ∷ []
  pub chain_operand : (r p k s n q : ℕ) (qs : List ℕ) → G.has_left r ≡ false → MayCome (G.next r 0) plain p → G.what r p ≡ operand s n → G.chain s k ≡ q ∷ qs → n ≤ G.stand q →
      G.chain (G.sort r) k ≡ r ∷ q ∷ qs
  pub first_only : (r p : ℕ) → MayCome (G.next r 0) plain p → first_of G r ≡ p
  pub grower_is : (r p k : ℕ) → G.has_left r ≡ true → MayCome (G.next r 0) plain p → takes G (G.what r p) k ≡ true → G.grower (G.sort r) k ≡ Some r
  pub left_fits : (r q : ℕ) → G.has_left r ≡ true → G.left_ok r (row q) ≡ true → (G.sort q ≡ G.sort r) × (G.stand r ≤ G.stand q)
  pub left_plain : (r : ℕ) → G.left_ok r plain ≡ true → ⊥
  pub start : (r : ℕ) → G.what r 0 ≡ nothing
  pub never_empty : (r : ℕ) → G.ends r 0 ≡ true → is_text (G.sort r) ≡ true
  pub slots : (r p s n : ℕ) → G.what r p ≡ operand s n → is_text s ≡ false
  pub root_left : G.has_left G.root ≡ false
  pub root_takes : (p k : ℕ) → MayCome (G.next G.root 0) plain p → takes G (G.what G.root p) k ≡ true → first_place G G.root 0 plain k ≡ at_spot p

-- what a chain and a grower are
pub record Found (G : Table) : Type 0 where
  pub chain_one : (s k r : ℕ) → G.chain s k ≡ r ∷ [] →
      (G.sort r ≡ s) × (G.has_left r ≡ false) × MayCome (G.next r 0) plain (first_of G r) × ((ks : List ℕ) × (G.what r (first_of G r) ≡ token ks) × (has ks k ≡ true))
  pub chain_more : (s k r q : ℕ) (qs : List ℕ) → G.chain s k ≡ r ∷ q ∷ qs →
      (G.sort r ≡ s) × (G.has_left r ≡ false) × MayCome (G.next r 0) plain (first_of G r) ×
      ((s' : ℕ) × (n' : ℕ) × (G.what r (first_of G r) ≡ operand s' n') × (G.chain s' k ≡ q ∷ qs) × (begins_by G n' (q ∷ qs) ≡ true))
  pub grower_left : (s k g : ℕ) → G.grower s k ≡ Some g → (G.sort g ≡ s) × (G.has_left g ≡ true) × MayCome (G.next g 0) plain (first_of G g) × (takes G (G.what g (first_of G g)) k ≡ true)
  pub left_plain : (r : ℕ) → G.left_ok r plain ≡ true → ⊥
  pub start : (r : ℕ) → G.what r 0 ≡ nothing
  pub root_left : G.has_left G.root ≡ false

-- no sort is that of a whole text and that of an operand
pub no_text : (s : ℕ) → is_text s ≡ true → is_text s ≡ false → ⊥
no_text s h k = by (is_text s) h k
  where
    by : (b : Bool) → b ≡ true → b ≡ false → ⊥
    by true h k = cc
    by false h k = cc

pub leads_map : (P Q : Tok → Type 0) (y : List Tok) → ((t : Tok) → P t → Q t) → Leads y P → Leads y Q
leads_map P Q [] h l = l
leads_map P Q (t ∷ y) h l = h t l

pub leads_both : (P Q : Tok → Type 0) (y : List Tok) → Leads y P → Leads y Q → Leads y (λ t. P t × Q t)
leads_both P Q [] h l = l
leads_both P Q (t ∷ y) h l = (h, l)

pub leads_append : (P : Tok → Type 0) (y z : List Tok) → Leads y P → Leads (y ++ z) P
leads_append P [] z h = absurd h
leads_append P (t ∷ y) z h = h

pub record Begun (G : Table) (n : ℕ) (xs : List ℕ) : Type 0 where
  pub head : ℕ
  pub rest : List ℕ
  pub is : xs ≡ head ∷ rest
  pub stands : n ≤ G.stand head

pub begun_by : (G : Table) (n : ℕ) (xs : List ℕ) → begins_by G n xs ≡ true → Begun G n xs
begun_by G n [] h = absurd (cc)
begun_by G n (q ∷ qs) h = record { head = q; rest = qs; is = refl; stands = leb-true n (G.stand q) h }

abbrev pub LeadsIn : Table → ℕ → ℕ → List Tok → Type 0
LeadsIn G s n y = Leads y (λ t. begins_by G n (G.chain s (key_of t)) ≡ true)

mutual
  pub leads : (G : Table) → Separate G → (n : ℕ) (T : Tree) → WellFormed G T → Proper G T → is_text (G.sort (row_of T)) ≡ false → n ≤ G.stand (row_of T) → LeadsIn G (G.sort (row_of T)) n (yield_of T)
  leads G L n (node r f) wf pr ne le = leads_node G L n r (G.has_left r) refl f wf pr ne le

  leads_node : (G : Table) → Separate G → (n r : ℕ) (b : Bool) → G.has_left r ≡ b → (f : Forest) → IsFilled G r f → ProperNode G r (G.has_left r) f → is_text (G.sort r) ≡ false → n ≤ G.stand r →
      LeadsIn G (G.sort r) n (forest_yield f)
  leads_node G L n r b e no_parts wf pr ne le = absurd (no_text (G.sort r) (L.never_empty r wf.1) ne)
  leads_node G L n r true e (part p c f) wf pr ne le =
      let first = subst (λ b. BeginsWith G r b p c) e wf.0 in
      let own = subst (λ b. ProperNode G r b (part p c f)) e pr in
      leads_append (λ t. begins_by G n (G.chain (G.sort r) (key_of t)) ≡ true) (part_yield c) (forest_yield f) (leads_left G L n r c e first.1 wf.1 own.0 ne le)
  leads_node G L n r false e (part p c f) wf pr ne le =
      let first = subst (λ b. BeginsWith G r b p c) e wf.0 in
      let own = subst (λ b. ProperNode G r b (part p c f)) e pr in
      leads_append (λ t. begins_by G n (G.chain (G.sort r) (key_of t)) ≡ true) (part_yield c) (forest_yield f) (leads_first G L n r p (G.what r p) refl c e first.0 first.1 wf.1 own.0 le)

  pub leads_left : (G : Table) → Separate G → (n r : ℕ) (c : Part) → G.has_left r ≡ true → G.left_ok r (left_last c) ≡ true → IsPartFormed G c → ProperPart G c → is_text (G.sort r) ≡ false → n ≤ G.stand r →
      LeadsIn G (G.sort r) n (part_yield c)
  leads_left G L n r (taken t) e ok wf pr ne le = absurd (L.left_plain r ok)
  leads_left G L n r (missing place) e ok wf pr ne le = absurd pr
  leads_left G L n r (inner T) e ok wf pr ne le =
      let (same, more) = L.left_fits r (row_of T) e ok in
      subst (λ s. LeadsIn G s n (yield_of T)) same (leads G L n T wf pr (ap is_text same ∙ ne) (omega arith))

  pub leads_first : (G : Table) → Separate G → (n r p : ℕ) (w : What) → G.what r p ≡ w → (c : Part) → G.has_left r ≡ false → MayCome (G.next r 0) plain p → StandsIn G (G.what r p) c →
      IsPartFormed G c → ProperPart G c → n ≤ G.stand r → LeadsIn G (G.sort r) n (part_yield c)
  leads_first G L n r p w is (missing place) e may st wf pr le = absurd pr
  leads_first G L n r p (token ks) is (taken t) e may st wf pr le =
      let same = L.chain_token r p (key_of t) ks e may is (subst (λ w. StandsIn G w (taken t)) is st) in
      rw same (le-leb n (G.stand r) le)
  leads_first G L n r p (token ks) is (inner T) e may st wf pr le = absurd (subst (λ w. StandsIn G w (inner T)) is st)
  leads_first G L n r p nothing is c e may st wf pr le = absurd (subst (λ w. StandsIn G w c) is st)
  leads_first G L n r p (operand s m) is (taken t) e may st wf pr le = absurd (subst (λ w. StandsIn G w (taken t)) is st)
  leads_first G L n r p (operand s m) is (inner T) e may st wf pr le =
      let (same, fits) = subst (λ w. StandsIn G w (inner T)) is st in
      let ih = subst (λ s. LeadsIn G s m (yield_of T)) same (leads G L m T wf pr (ap is_text same ∙ L.slots r p s m is) fits) in
      leads_map (λ t. begins_by G m (G.chain s (key_of t)) ≡ true) (λ t. begins_by G n (G.chain (G.sort r) (key_of t)) ≡ true) (yield_of T)
      (λ t h. let b = begun_by G m (G.chain s (key_of t)) h in
      rw (L.chain_operand r p (key_of t) s m b.head b.rest e may is b.is b.stands) (le-leb n (G.stand r) le)) ih
