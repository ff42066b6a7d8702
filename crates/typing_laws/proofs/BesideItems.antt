-- The names that items add beside another choice of types: the same records are found, and renamed variables are free.
use Rattle.std.proofs.Common.{◌≡◌, ℕ, Bool, true, false, not, ◌||◌, List, [], ◌∷◌, ◌++◌, map, refl, sym, ◌∙◌, ap, subst, inl, inr, if◌then◌else◌}
use Rattle.std.proofs.lemmas.Bool.{eqb-true}
use Rattle.type_model.specs.Types.{Typ, occurs}
use Rattle.type_model.specs.Substitutions.{apply}
use Rattle.type_model.specs.Schemes.{Scheme, free_in_scheme}
use Rattle.type_model.proofs.Applying.{or_left, or_right, or_cases, eqb_same, occurs_put, occurs_from}
use Rattle.signature_model.specs.Declarations.{Name, Place, in_text}
use Rattle.signature_model.specs.Entries.{Environment, entry, a_value, free_in}
use Rattle.typing_model.specs.Contexts.{Choice, Context, Bound, occurs_in, generalised_in, entries_with}
use Rattle.typing_model.specs.Parts.{Binding}
use Rattle.typing_model.specs.Bindings.{generalises, held_by, names_of_group}
use Rattle.typing_laws.specs.Renaming.{renaming, StandsIn, at_node, AreRenamedChoices, IsOf}
use Rattle.typing_laws.proofs.Bools.{and_cases, and_both, not_not, no_yes}
use Rattle.typing_laws.proofs.Steady.{Each, no_one, one_and, each_append}
use Rattle.typing_laws.proofs.Labelled.{EntriesAlike, next}
use Rattle.typing_laws.proofs.Beside.{RenamedName, BesideBinding, generalises_same}

-- the variables of a test behind a renaming are the renamed ones of a test before it, which are chosen
pub record FreeAlike (choice : Choice) (f : ℕ → ℕ) (before behind : ℕ → Bool) : Type 0 where
  pub brings : (v : ℕ) → before v ≡ true → behind (f v) ≡ true
  pub comes : (w : ℕ) → behind w ≡ true → (v : ℕ) × (w ≡ f v) × (before v ≡ true)
  pub stands : (v : ℕ) → before v ≡ true → StandsIn choice v

-- either of two tests
pub either_alike : {choice : Choice} {f : ℕ → ℕ} (p q s t : ℕ → Bool) → FreeAlike choice f p q → FreeAlike choice f s t → FreeAlike choice f (λ v. p v || s v) (λ v. q v || t v)
either_alike p q s t a b = record {
  brings = λ v h. elim (or_cases (p v) (s v) h) [ inl i ↦ or_left (q _) (t _) (a.brings v i) | inr i ↦ or_right (q _) (t _) (b.brings v i) ];
  comes = λ w h. elim (or_cases (q w) (t w) h) [
    | inl i ↦ let (v, e, j) = a.comes w i in (v, e, or_left (p v) (s v) j)
    | inr i ↦ let (v, e, j) = b.comes w i in (v, e, or_right (p v) (s v) j)
  ];
  stands = λ v h. elim (or_cases (p v) (s v) h) [ inl i ↦ a.stands v i | inr i ↦ b.stands v i ];
}

-- the variables of a chosen type
pub type_alike : {choice : Choice} (f : ℕ → ℕ) (t : Typ) → IsOf choice t → FreeAlike choice f (λ v. occurs v t) (λ v. occurs v (apply (renaming f) t))
type_alike f t chosen = record {
  brings = λ v o. occurs_put (renaming f) v (f v) t o (eqb_same (f v));
  comes = λ w o. let (v, p, q) = occurs_from (renaming f) w t o in (v, eqb-true w (f v) q, p);
  stands = chosen;
}

-- held types
pub record HeldAlike (choice : Choice) (f : ℕ → ℕ) (hs ks : List Typ) : Type 0 where
  pub alike : FreeAlike choice f (λ v. occurs_in v hs) (λ v. occurs_in v ks)

none_held : {choice : Choice} {f : ℕ → ℕ} → HeldAlike choice f [] []
none_held = record { alike = record { brings = λ v h. h; comes = λ w h. absurd (no_yes h); stands = λ v h. absurd (no_yes h) } }

one_held : {choice : Choice} {f : ℕ → ℕ} (t : Typ) (hs ks : List Typ) → IsOf choice t → HeldAlike choice f hs ks → HeldAlike choice f (t ∷ hs) (apply (renaming f) t ∷ ks)
one_held {choice} {f} t hs ks chosen h = record { alike = either_alike (λ v. occurs v t) (λ v. occurs v (apply (renaming f) t)) (λ v. occurs_in v hs) (λ v. occurs_in v ks) (type_alike f t chosen) h.alike }

-- a generalised type has the same free variables, renamed
scheme_alike : {choice other : Choice} (r : AreRenamedChoices choice other) (E F : Environment) (hs ks : List Typ) (t : Typ) → FreeAlike choice r.forth (λ v. free_in v E) (λ v. free_in v F) → HeldAlike choice r.forth hs ks → IsOf choice t →
    FreeAlike choice r.forth (λ v. free_in_scheme v (generalised_in E hs t)) (λ v. free_in_scheme v (generalised_in F ks (apply (renaming r.forth) t)))
scheme_alike {choice} {other} r E F hs ks t free held chosen = record {
  brings = λ v h.
      let p = and_cases (occurs v t) (not (not (before v))) h in
      and_both (occurs (r.forth v) u) (not (not (behind (r.forth v)))) (type.brings v p.0) (not_not (behind (r.forth v)) ∙ fixed.brings v (sym (not_not (before v)) ∙ p.1));
  comes = λ w h.
      let p = and_cases (occurs w u) (not (not (behind w))) h in
      let (v, e, o) = type.comes w p.0 in
      let (x, i, j) = fixed.comes w (sym (not_not (behind w)) ∙ p.1) in
      let same : x ≡ v = sym (r.undone x (fixed.stands x j)) ∙ ap r.back (sym i ∙ e) ∙ r.undone v (chosen v o) in
      (v, e, and_both (occurs v t) (not (not (before v))) o (not_not (before v) ∙ subst (λ y. before y ≡ true) same j));
  stands = λ v h. chosen v (and_cases (occurs v t) (not (not (before v))) h).0;
}
  where
    u : Typ
    u = apply (renaming r.forth) t

    before : ℕ → Bool
    before v = free_in v E || occurs_in v hs

    behind : ℕ → Bool
    behind v = free_in v F || occurs_in v ks

    type : FreeAlike choice r.forth (λ v. occurs v t) (λ v. occurs v (apply (renaming r.forth) t))
    type = type_alike r.forth t chosen

    fixed : FreeAlike choice r.forth (λ v. free_in v E || occurs_in v hs) (λ v. free_in v F || occurs_in v ks)
    fixed = either_alike (λ v. free_in v E) (λ v. free_in v F) (λ v. occurs_in v hs) (λ v. occurs_in v ks) free held.alike

-- two contexts, the second of the other choice
pub record Related {choice other : Choice} (r : AreRenamedChoices choice other) (c d : Context) : Type 0 where
  pub chosen : c.chosen ≡ choice
  pub chosen_too : d.chosen ≡ other
  pub kept : c.kept ≡ d.kept
  pub found : EntriesAlike c.env d.env
  pub free : FreeAlike choice r.forth (λ v. free_in v c.env) (λ v. free_in v d.env)

-- what is held of a group
names_held : {choice other : Choice} (r : AreRenamedChoices choice other) (c d : Context) → c.chosen ≡ choice → d.chosen ≡ other → (bs : List Bound) (hs ks : List Typ) → Each (RenamedName choice other r.forth) bs → HeldAlike choice r.forth hs ks →
    HeldAlike choice r.forth (map (λ b. b.has_type c) bs ++ hs) (map (λ b. b.has_type d) bs ++ ks)
names_held r c d i j [] hs ks no_one h = h
names_held {choice} r c d i j (b ∷ bs) hs ks (one_and s each) h =
    subst (λ t. HeldAlike choice r.forth (b.has_type c ∷ map (λ b. b.has_type c) bs ++ hs) (t ∷ map (λ b. b.has_type d) bs ++ ks)) (sym (s.gives c d i j))
    (one_held (b.has_type c) (map (λ b. b.has_type c) bs ++ hs) (map (λ b. b.has_type d) bs ++ ks) (s.chosen c i) (names_held r c d i j bs hs ks each h))

pub group_held : {choice other : Choice} (r : AreRenamedChoices choice other) (c d : Context) → c.chosen ≡ choice → d.chosen ≡ other → EntriesAlike c.env d.env → (bs : List Binding) → Each (BesideBinding choice other r.forth) bs →
    HeldAlike choice r.forth (held_by c bs) (held_by d bs)
group_held r c d i j g [] no_one = none_held
group_held {choice} {other} r c d i j g (b ∷ bs) (one_and s each) = by (generalises c b) (generalises d b) (generalises_same c d g b s) (group_held r c d i j g bs each)
  where
    node : ◌≡◌ {A = Typ} (d.chosen.type_at b.body.node) (apply (renaming r.forth) (c.chosen.type_at b.body.node))
    node = ap (λ x. x.type_at b.body.node) j ∙ r.nodes b.body.node ∙ ap (λ x. apply (renaming r.forth) (x.type_at b.body.node)) (sym i)

    of : IsOf choice (c.chosen.type_at b.body.node)
    of = λ v o. at_node b.body.node (subst (λ x. occurs v (x.type_at b.body.node) ≡ true) i o)

    by : (x y : Bool) → x ≡ y → HeldAlike choice r.forth (held_by c bs) (held_by d bs) →
        HeldAlike choice r.forth (if x then held_by c bs else c.chosen.type_at b.body.node ∷ map (λ n. n.has_type c) b.pattern.names ++ held_by c bs) (if y then held_by d bs else d.chosen.type_at b.body.node ∷ map (λ n. n.has_type d) b.pattern.names ++ held_by d bs)
    by true true e h = h
    by false false e h =
        subst (λ t. HeldAlike choice r.forth (c.chosen.type_at b.body.node ∷ map (λ n. n.has_type c) b.pattern.names ++ held_by c bs) (t ∷ map (λ n. n.has_type d) b.pattern.names ++ held_by d bs)) (sym node)
        (one_held (c.chosen.type_at b.body.node) (map (λ n. n.has_type c) b.pattern.names ++ held_by c bs) (map (λ n. n.has_type d) b.pattern.names ++ held_by d bs) of (names_held r c d i j b.pattern.names (held_by c bs) (held_by d bs) s.pattern.binds h))
    by true false e h = absurd (cc)
    by false true e h = absurd (cc)

pub group_names_renamed : {choice other : Choice} {f : ℕ → ℕ} (bs : List Binding) → Each (BesideBinding choice other f) bs → Each (RenamedName choice other f) (names_of_group bs)
group_names_renamed [] no_one = no_one
group_names_renamed (b ∷ bs) (one_and s each) = each_append s.pattern.binds (group_names_renamed bs each)

-- environments of which this holds
pub record NamesAlike (choice : Choice) (f : ℕ → ℕ) (E F : Environment) : Type 0 where
  pub found : EntriesAlike E F
  pub free : FreeAlike choice f (λ v. free_in v E) (λ v. free_in v F)

value_too : {choice : Choice} {f : ℕ → ℕ} (x : Name) (p : Place) (s z : Scheme) (E F : Environment) → FreeAlike choice f (λ v. free_in_scheme v s) (λ v. free_in_scheme v z) → NamesAlike choice f E F → NamesAlike choice f (entry x p (a_value s) ∷ E) (entry x p (a_value z) ∷ F)
value_too x p s z E F a h = record {
  found = next (record { name = refl; label = refl; constant = refl; no_module = λ n. refl; neither = λ n. refl }) h.found;
  free = either_alike (λ v. free_in_scheme v s) (λ v. free_in_scheme v z) (λ v. free_in v E) (λ v. free_in v F) a h.free;
}

-- names with generalised types
pub names_too : {choice other : Choice} (r : AreRenamedChoices choice other) (c d : Context) → c.chosen ≡ choice → d.chosen ≡ other → (E F : Environment) (hs ks : List Typ) → FreeAlike choice r.forth (λ v. free_in v E) (λ v. free_in v F) → HeldAlike choice r.forth hs ks →
    (bs : List Bound) (X Y : Environment) → Each (RenamedName choice other r.forth) bs → NamesAlike choice r.forth X Y → NamesAlike choice r.forth (entries_with (generalised_in E hs) c bs X) (entries_with (generalised_in F ks) d bs Y)
names_too r c d i j E F hs ks free held [] X Y no_one h = h
names_too {choice} r c d i j E F hs ks free held (b ∷ bs) X Y (one_and s each) h =
    names_too r c d i j E F hs ks free held bs (entry b.name (in_text b.place) (a_value (generalised_in E hs (b.has_type c))) ∷ X) (entry b.name (in_text b.place) (a_value (generalised_in F ks (b.has_type d))) ∷ Y) each
    (value_too b.name (in_text b.place) (generalised_in E hs (b.has_type c)) (generalised_in F ks (b.has_type d)) X Y
    (subst (λ t. FreeAlike choice r.forth (λ v. free_in_scheme v (generalised_in E hs (b.has_type c))) (λ v. free_in_scheme v (generalised_in F ks t))) (sym (s.gives c d i j)) (scheme_alike r E F hs ks (b.has_type c) free held (s.chosen c i))) h)

pub added_in_front : (s : Typ → Scheme) (c : Context) (bs : List Bound) (X E : Environment) → entries_with s c bs X ++ E ≡ entries_with s c bs (X ++ E)
added_in_front s c [] X E = refl
added_in_front s c (b ∷ bs) X E = added_in_front s c bs (entry b.name (in_text b.place) (a_value (s (b.has_type c))) ∷ X) E
