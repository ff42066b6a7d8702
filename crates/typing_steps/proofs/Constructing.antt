-- The use of a constructor: the demand that its path is bound, that it takes as many arguments as are given, and an instance of its root.
use Rattle.std.proofs.Common.{◌≡◌, ◌≢◌, ◌∙◌, ◌++◌, ◌==◌, ◌⊎◌, inl, inr, ℕ, Bool, true, false, List, [], ◌∷◌, Option, Some, None, refl, sym, ap, subst, append-nil, if◌then◌else◌}
use Rattle.std.proofs.lemmas.Bool.{ne_eqb}
use Rattle.token_model.specs.Kinds.{Tok}
use Rattle.text_terms.specs.declared.Span.{Span}
use Rattle.syntax_tree.specs.View.{place_of}
use Rattle.type_model.specs.Types.{Typ}
use Rattle.type_model.specs.Types.{Typ as type}
use Rattle.type_model.specs.Schemes.{Scheme}
use Rattle.type_model.proofs.Applying.{eqb_same}
use Rattle.typing_laws.proofs.Bools.{no_yes}
use Rattle.signature_model.specs.Declarations as rules
use Rattle.signature_model.specs.Entries.{constructor_kind}
use Rattle.signature_model.specs.Entries.{Entry as Named}
use Rattle.signature_model.specs.Lookups.{FoundAmong, an_entry, a_hole, nothing, lookup}
use Rattle.signature_model.specs.Records.{is_some}
use Rattle.typing_model.specs.Demands.{Site, site, constructor_word, Condition, demand, test, arity}
use Rattle.typing_model.specs.Contexts.{Context, is_kept, ask}
use Rattle.typing_model.specs.Parts as parts
use Rattle.typing_model.specs.Names.{names_of, referent_of, then_by, Built, built, built_in}
use Rattle.typing_model.specs.Patterns.{taken_by}
use Rattle.typing_model.specs.BuiltIns.{exn_type}
use Rattle.type_nodes.specs.Nodes.{Arrow, IsSound, IsNode}
use Rattle.type_nodes.specs.Links.{reading}
use Rattle.type_nodes.specs.Readings.{Types}
use Rattle.level_unify.specs.Instances.{Instantiated}
use Rattle.env_table.specs.declared.entries.Constructor.{Constructor}
use Rattle.env_table.specs.declared.entries.Declaration.{Declaration}
use Rattle.env_table.specs.declared.entries.Entry.{Entry}
use Rattle.env_table.specs.declared.entries.Kind.TheVariants as kind
use Rattle.env_table.specs.declared.faults.FaultKind.TheVariants as fault
use Rattle.env_table.specs.Views.{kind_of}
use Rattle.typing_state.specs.declared.parts.Parts.{Parts}
use Rattle.typing_state.specs.declared.messages.Word.TheVariants as word
use Rattle.typing_state.specs.Goes.{faults_of, OnlyFaults, OnlyStore, Told}
use Rattle.typing_state.specs.Messages.{arity_text}
use Rattle.typing_state.specs.Places.{place_of_tok}
use Rattle.typing_state.specs.Types.{MakesVar, any_scope, level_for}
use Rattle.typing_state.specs.Bound.{lost_among, found_at, BoundIs}
use Rattle.typing_conditions.specs.Locals.{IsOwn}
use Rattle.typing_conditions.specs.Assumptions.{SchemeFits}
use Rattle.typing_conditions.specs.Standing.{IsIn}
use Rattle.typing_conditions.proofs.Own.{own_of}
use Rattle.typing_conditions.proofs.Environments.{ComesTo, to_entry, to_hole, to_nothing, lookup_alike}
use Rattle.typing_conditions.specs.Declared.{building, DeclaredAs, ExceptionAs, MakesAs, RootAs, constructor_in}
use Rattle.typing_conditions.proofs.Roots.{root_after}
use Rattle.typing_conditions.proofs.Finding.{FindsConstructor, finds_constructor, same_building}
use Rattle.typing_conditions.specs.Sights.{Key, value_of, Letters, IsKnownFor}
use Rattle.typing_conditions.specs.Frames.{Frame, IsRoot}
use Rattle.typing_conditions.specs.Judging.{judged_at, AreKept}
use Rattle.typing_conditions.specs.Meanings.{Means}
use Rattle.typing_conditions.specs.Steps.{Tells}
use Rattle.typing_conditions.specs.Carrying.{Scope, Carried, CarriedTo}
use Rattle.typing_conditions.specs.Surroundings.{Surrounds}
use Rattle.typing_conditions.proofs.Stays.{agrees_before, named_before}
use Rattle.typing_conditions.proofs.Framing.{root_on}
use Rattle.typing_conditions.proofs.Judged.{kept_left}
use Rattle.typing_conditions.proofs.Branching.{carried_after, carried_then}
use Rattle.typing_conditions.proofs.Answering.{then_to, to_as}
use Rattle.typing_steps.specs.States.{is_aloud, reports_of, sight}
use Rattle.typing_steps.specs.Demands.{JudgedAs, is_found_here, bound_asks}
use Rattle.typing_steps.specs.Typing.{as_declared}
use Rattle.typing_steps.specs.Building.{InEach, used_by, building_in, construction_asks, TakesAs, BuildsKnown, BuildsUnknown}
use Rattle.typing_steps.proofs.Seeing.{only_nodes, only_reports, tells_one, level_here}
use Rattle.typing_steps.proofs.Making.{var_made}
use Rattle.typing_steps.proofs.Testing.{AreSameHere, carried_here, test_held, test_reported}
use Rattle.typing_steps.proofs.Finding.{bound_asked}
use Rattle.typing_steps.proofs.Valued.{found_of_kind}
use Rattle.typing_steps.proofs.Taken.{TakenWith, root_taken}
use Rattle.typing_steps.proofs.Sides.{reads_arrow, from_means, to_means}

-- as many arguments are given as are taken, and nothing is reported; or that is reported once
abbrev pub CountsAre : (taken given : ℕ) → (old new : Parts) → Tok → Type 0
CountsAre taken given old new last = ((taken ≡ given) × (faults_of new ≡ faults_of old))
    ⊎ ((taken ≢ given) × (span : Span) × (place_of span ≡ place_of_tok last) × Told old.telling (faults_of old) (faults_of new) span fault.Arity (arity_text last.name taken given))

-- the demand that a constructor takes as many arguments
counts_asked : (a b : Parts) {F : Frame} {scope : Scope} {G : Letters} (taken given : ℕ) (t : Tok) (s : Site) → is_aloud a.telling ≡ true → CountsAre taken given a b t → OnlyFaults a b →
    JudgedAs F scope (λ c. demand s (parts.place_of t) (test (arity t.name taken given) (taken == given)) ∷ []) (sight a) G (sight b) G s (taken == given)
counts_asked a b {F} {scope} {G} taken given t s aloud (inl (e, same)) rest =
    let holds : true ≡ (taken == given) = sym (ap (λ n. taken == n) (sym e) ∙ eqb_same taken) in
    subst (λ v. JudgedAs F scope (λ c. demand s (parts.place_of t) (test (arity t.name taken given) v) ∷ []) (sight a) G (sight b) G s v) holds
    (test_held (arity t.name taken given) s (only_reports a b rest) (ap reports_of same))
counts_asked a b {F} {scope} {G} taken given t s aloud (inr (other, span, is, told)) rest =
    subst (λ v. JudgedAs F scope (λ c. demand s (parts.place_of t) (test (arity t.name taken given) v) ∷ []) (sight a) G (sight b) G s v) (sym (ne_eqb taken given other))
    (test_reported (arity t.name taken given) s (only_reports a b rest) (subst (λ p. Tells (sight a) (sight b) p fault.Arity (arity_text t.name taken given)) is (tells_one a b span fault.Arity _ refl aloud told)))

-- an instance of a constructor's type is split into its sides exactly where it takes an argument
abbrev pub SplitsInto : Bool → Parts → (n m : ℕ) → Option ℕ → Type 0
SplitsInto has e n m argument = ((has ≡ true) × ((x : ℕ) × (y : ℕ) × (reading e.store.nodes n ≡ Some (Arrow x y)) × (m ≡ y) × (argument ≡ Some x)))
    ⊎ ((has ≡ true → (x y : ℕ) → IsNode e.store.nodes n → reading e.store.nodes n ≡ Some (Arrow x y) → ⊥) × (m ≡ n) × (argument ≡ None))

-- what is built and what is taken have the types of the use
sides_typed : (e : Parts) {F : Frame} {G : Letters} {has : Bool} {n m : ℕ} {argument : Option ℕ} (own : ℕ) (result : Typ) (taken : Option Typ) → has ≡ is_some taken →
    ((x y : Typ) → building result taken ≡ type.Arrow x y → (K : Types) → IsOwn e.store.nodes K → (p : Typ) × (q : Typ) × (K n ≡ type.Arrow p q)) → Means F (sight e) G (used_by own (building result taken)) n → SplitsInto has e n m argument →
    Means F (sight e) G (used_by own result) m × TakesAs F (sight e) G own taken argument
sides_typed e own result None takes splits p (inl (has, side)) = absurd (no_yes (sym takes ∙ has))
sides_typed e {F} {G} own result None takes splits p (inr (h, is, none)) = (subst (Means F (sight e) G (used_by own result)) (sym is) p, subst (TakesAs F (sight e) G own None) (sym none) tt)
sides_typed e {F} {G} own result (Some t) takes splits p (inl (has, (x, y, reads, is, some))) = (
  subst (Means F (sight e) G (used_by own result)) (sym is) (to_means {from = used_by own t} {to = used_by own result} p reads),
  subst (TakesAs F (sight e) G own (Some t)) (sym some) (from_means {from = used_by own t} {to = used_by own result} p reads),
)
sides_typed e {F} {G} {n = n} own result (Some t) takes splits p (inr (h, is, none)) = absurd (
    let own_types = own_of e.store.nodes p.open_node.reached.sound in
    let (u, v, arrow) = splits t result refl own_types.0 own_types.1 in
    let (x, y, reads) = reads_arrow e.store.nodes own_types.0 n u v p.open_node.reached.sound own_types.1 p.open_node.inside arrow in
    h takes x y p.open_node.inside reads)

-- how many arguments the constructor takes, by that of the definitions
taken_alike : (has : Bool) (result : Typ) (argument : Option Typ) → has ≡ is_some argument → (if has then 1 else 0) ≡ taken_by (built result argument)
taken_alike has result None e = ap (λ (b : Bool). if b then 1 else 0) e
taken_alike has result (Some t) e = ap (λ (b : Bool). if b then 1 else 0) e

-- what a path finds as one of a kind is none in a hole
pub hole_none : {A : Type 0} {R : ℕ → Scheme → Type 0} {D : Declaration → rules.Declaration → Type 0} {X : Constructor → Option Typ → Type 0} {x : FoundAmong Entry} {y : FoundAmong Named} (by : FoundAmong Named → Option A) → by a_hole ≡ None → x ≡ a_hole → ComesTo R D X x y → by y ≡ None
hole_none by none e (to_entry h) = absurd (cc)
hole_none by none e to_hole = none
hole_none by none e to_nothing = absurd (cc)

pub if_none : {A : Type 0} (b : Bool) (o : Option A) → o ≡ None → (if b then o else None) ≡ None
if_none true o e = e
if_none false o e = refl

-- what is asked of the number of arguments, by what is found
abbrev pub counts_if : ℕ → Tok → ℕ → Option Built → List Condition
counts_if n t given o = elim o [ None ↦ [] | Some b ↦ ask n 1 (parts.place_of t) (test (arity t.name (taken_by b) given) (taken_by b == given)) ]

-- The path was looked up.
module _ (a b : Parts) {F : Frame} {scope : Scope} {G : Letters} {env : List Entry} (entry : Option Entry) (qs : List Tok) (t : Tok) (n given : ℕ) (names : Surrounds as_declared F (sight a) G env scope) (aloud : is_aloud a.telling ≡ true)
    (bound : BoundIs (found_at env qs kind.Constructor t) entry a b (lost_among env qs) t word.Constructor) where
  abbrev pub path : parts.Written
  path = record { qualifiers = qs; last = Some t }

  judged : JudgedAs F scope (λ c. bound_asks c (site n 0) constructor_kind constructor_word qs t) (sight a) G (sight b) G (site n 0) (is_found_here (found_at env qs kind.Constructor t))
  judged = bound_asked a b entry word.Constructor qs t kind.Constructor constructor_word refl (site n 0) names aloud bound

  kept_as : (c : Context) (v : Bool) → is_found_here (found_at env qs kind.Constructor t) ≡ v → AreKept c.kept judged.carried.judged → c.kept (site n 0) ≡ v
  kept_as c v e h = let k : AreKept c.kept (judged_at (site n 0) (is_found_here (found_at env qs kind.Constructor t)) false ∷ []) = subst (AreKept c.kept) judged.verdict h in k.0 ∙ e

  -- conditions on what is found after the demand, where they are these in each context of before
  after_bound : (asks : Context → Option Built → List Condition) (actual : Context → List Condition) → InEach F scope (sight a) G (λ c. asks c (building_in c.env path) ≡ actual c) → AreSameHere F scope (sight b) G actual (λ c. asks c (building_in c.env path))
  after_bound asks actual h V c loose under agrees named = sym (h V c (judged.carried.stays.loose V loose) under (agrees_before judged.carried.stays agrees) (named_before scope judged.carried.stays named))

  -- It finds a constructor, of which the arguments are counted, and an instance is taken.
  module _ (d e : Parts) {x : Entry} {k : Constructor} {node : ℕ} (m : ℕ) (argument : Option ℕ) (own : ℕ) (finds : found_at env qs kind.Constructor t ≡ an_entry x) (is : constructor_in x.what ≡ Some k)
      (counted : CountsAre (if k.has_argument then 1 else 0) given b d t) (only : OnlyFaults b d) (sound : IsNode d.store.nodes k.root.0 → IsSound e.store.nodes)
      (taken : IsNode d.store.nodes k.root.0 → Instantiated d.store.nodes e.store.nodes k.root.0 (level_for d.level) node) (rest : OnlyStore d e) (split : SplitsInto k.has_argument e node m argument) where
    own_a : (I : Types) × IsOwn a.store.nodes I
    own_a = own_of a.store.nodes names.reached.sound

    is_kind : kind_of x.kind ≡ constructor_kind
    is_kind = found_of_kind constructor_kind env (names_of qs) t.name x finds

    -- the constructor that is found among names that stand for the definitions'
    same_one : {R : ℕ → Scheme → Type 0} {y : FoundAmong Named} (f : FindsConstructor R a.store.nodes names.roots names.names x y) → MakesAs a.store.nodes names.roots names.names f.arity k f.building.result f.building.argument
    same_one f = let s : Some f.constructor ≡ Some k = sym f.here ∙ is in let r : f.constructor ≡ k = cc in subst (λ z. MakesAs a.store.nodes names.roots names.names f.arity z f.building.result f.building.argument) r f.makes

    here : FindsConstructor (λ r sc. IsIn names.roots r) a.store.nodes names.roots names.names x (lookup names.covered.0 (names_of qs) constructor_kind t.name)
    here = finds_constructor (λ r sc. IsIn names.roots r) a.store.nodes names.roots names.names (names_of qs) t.name x finds is_kind names.covered.1

    found : Built
    found = here.building

    makes : MakesAs a.store.nodes names.roots names.names here.arity k found.result found.argument
    unfolding found
    makes = same_one here

    -- it is the same one in each context
    finds_each : InEach F scope (sight a) G (λ c. building_in c.env path ≡ Some found)
    finds_each V c loose under agrees named =
        let stand = names.fits own_a.0 V c.chosen own_a.1 loose agrees named in
        let f = finds_constructor (λ r sc. SchemeFits a.store.nodes V r sc × IsIn names.roots r) a.store.nodes names.roots names.names (names_of qs) t.name x finds is_kind stand.names in
        ap (λ E. building_in E path) under.env ∙ f.is ∙ ap (λ z. Some z) (same_building own_a.1 (same_one f) makes)

    aloud_b : is_aloud b.telling ≡ true
    aloud_b = judged.carried.stays.aloud ∙ aloud

    counts : JudgedAs F scope (λ c. counts_if n t given (Some found)) (sight b) G (sight d) G (site n 1) (taken_by found == given)
    counts = counts_asked b d (taken_by found) given t (site n 1) aloud_b (subst (λ w. CountsAre w given b d t) (taken_alike k.has_argument found.result found.argument makes.takes) counted) only

    -- the root at the time of the instance
    both_stay : Carried F scope (λ c. bound_asks c (site n 0) constructor_kind constructor_word qs t ++ counts_if n t given (Some found)) (sight a) G (sight d) G
    both_stay = carried_then judged.carried (λ c h. refl) counts.carried

    root_there : RootAs d.store.nodes names.roots names.names here.arity k.root.0 (building found.result found.argument)
    root_there = let own_d = own_of d.store.nodes (both_stay.stays.reaches names.reached).sound in root_after own_a.1 (both_stay.stays.refines names.reached own_d.0 own_d.1) (λ r i. i) makes.root

    is_root : IsRoot F (sight d) k.root.0
    is_root = let (i, at) = makes.root.among in root_on both_stay.stays names.reached (names.are_roots i k.root.0 at)

    taking : TakenWith F scope (sight d) G (sight e) own (building found.result found.argument) node
    taking = root_taken own (both_stay.stays.reaches names.reached) is_root root_there (sound is_root.inside)
        (subst (λ l. Instantiated d.store.nodes e.store.nodes k.root.0 l node) (level_here d (both_stay.stays.reaches names.reached)) (taken is_root.inside)) (only_nodes d e rest)

    after_counts : CarriedTo F scope (λ c. counts_if n t given (Some found)) (sight b) G (sight e) (taking.own ++ G) (used_by own (building found.result found.argument)) node
    after_counts = to_as (λ c. append-nil (counts_if n t given (Some found))) (λ ch. refl) (then_to counts.carried taking.typed)

    whole : Carried F scope (λ c. construction_asks c n path given) (sight a) G (sight e) (taking.own ++ G)
    whole = carried_then judged.carried (λ c h. ap (λ v. counts_if n t given (if v then building_in c.env path else None)) (kept_as c true (ap is_found_here finds) h))
        (carried_here (after_bound (λ c. counts_if n t given) (λ c. counts_if n t given (Some found)) (λ V c loose under agrees named. ap (counts_if n t given) (finds_each V c loose under agrees named))) after_counts.carried)

    kept_whole : (c : Context) → AreKept c.kept whole.judged → is_kept c n 0 ≡ true
    unfolding whole carried_then carried_after
    kept_whole c h = kept_as c true (ap is_found_here finds) (kept_left c.kept judged.carried.judged _ h)

    pub constructor_known : BuildsKnown F scope (sight a) G (sight e) n own given path m argument
    constructor_known =
        let sides = sides_typed e own found.result found.argument makes.takes taking.splits taking.typed.means split in
        record { building = found; letters = taking.own; of_row = taking.of_row; carried = whole; kept = kept_whole; finds = finds_each; builds = sides.0; takes = sides.1 }

  -- No constructor is known: what is built has a type of its own.
  module _ (e : Parts) {m : ℕ} (key : Key) (free : (z : Typ) → IsKnownFor key z) (made : MakesVar b e m any_scope) (rest : OnlyStore b e) where
    variable : CarriedTo F scope (λ c. []) (sight b) G (sight e) ((key, m) ∷ G) (λ ch. value_of ch key) m
    variable = var_made b e {scope = scope} key free (judged.carried.stays.reaches names.reached) made rest

    module _ (finds : found_at env qs kind.Constructor t ≡ nothing) where
      lost : Carried F scope (λ c. construction_asks c n path given) (sight a) G (sight e) ((key, m) ∷ G)
      lost = carried_then judged.carried (λ c h. ap (λ v. counts_if n t given (if v then building_in c.env path else None)) (kept_as c false (ap is_found_here finds) h)) variable.carried

      lost_none : InEach F scope (sight a) G (λ c. AreKept c.kept lost.judged → (if is_kept c n 0 then building_in c.env path else None) ≡ None)
      unfolding lost carried_then carried_after
      lost_none V c loose under agrees named h = ap (λ v. if v then building_in c.env path else None) (kept_as c false (ap is_found_here finds) (kept_left c.kept judged.carried.judged _ h))

      -- the path finds nothing, which is reported
      pub constructor_lost : BuildsUnknown F scope (sight a) G (sight e) n given path key m
      constructor_lost = record { typed = record { carried = lost; means = variable.means }; none = lost_none }

    module _ (finds : found_at env qs kind.Constructor t ≡ a_hole) where
      none_each : InEach F scope (sight a) G (λ c. building_in c.env path ≡ None)
      none_each V c loose under agrees named =
          let own = own_of a.store.nodes names.reached.sound in
          let stand = (names.fits own.0 V c.chosen own.1 loose agrees named).names in
          ap (λ E. building_in E path) under.env ∙ hole_none (λ f. then_by (referent_of f) (built_in exn_type)) refl finds
          (lookup_alike (λ r sc. SchemeFits a.store.nodes V r sc × IsIn names.roots r) (DeclaredAs a.store.nodes names.roots names.names) (ExceptionAs a.store.nodes names.roots names.names) (names_of qs) constructor_kind t.name stand)

      hidden : Carried F scope (λ c. construction_asks c n path given) (sight a) G (sight e) ((key, m) ∷ G)
      hidden = carried_then judged.carried (λ c h. ap (λ v. counts_if n t given (if v then building_in c.env path else None)) (kept_as c true (ap is_found_here finds) h))
          (carried_here (after_bound (λ c. counts_if n t given) (λ c. []) (λ V c loose under agrees named. ap (counts_if n t given) (none_each V c loose under agrees named))) variable.carried)

      -- it is inside a module that isn't known, and that is no fault
      pub constructor_in_hole : BuildsUnknown F scope (sight a) G (sight e) n given path key m
      constructor_in_hole = record { typed = record { carried = hidden; means = variable.means }; none = λ V c loose under agrees named h. if_none (is_kept c n 0) (building_in c.env path) (none_each V c loose under agrees named) }

-- a constructor whose last token is missing asks nothing
pub constructor_missing : (a e : Parts) {F : Frame} {scope : Scope} {G : Letters} {env : List Entry} {m : ℕ} (qs : List Tok) (n given : ℕ) (key : Key) → ((z : Typ) → IsKnownFor key z) → Surrounds as_declared F (sight a) G env scope → MakesVar a e m any_scope → OnlyStore a e →
    BuildsUnknown F scope (sight a) G (sight e) n given (record { qualifiers = qs; last = None }) key m
constructor_missing a e {scope = scope} qs n given key free names made rest =
    record { typed = var_made a e {scope = scope} key free names.reached made rest; none = λ V c loose under agrees named h. if_none (is_kept c n 0) None refl }

-- what is found as a constructor is one
pub found_constructor : (a : Parts) {F : Frame} {scope : Scope} {G : Letters} {env : List Entry} (qs : List Tok) (t : Tok) {x : Entry} → Surrounds as_declared F (sight a) G env scope → found_at env qs kind.Constructor t ≡ an_entry x → (k : Constructor) × (constructor_in x.what ≡ Some k)
found_constructor a {env = env} qs t {x} names finds =
    let f = finds_constructor (λ r sc. IsIn names.roots r) a.store.nodes names.roots names.names (names_of qs) t.name x finds (found_of_kind constructor_kind env (names_of qs) t.name x finds) names.covered.1 in
    (f.constructor, f.here)
