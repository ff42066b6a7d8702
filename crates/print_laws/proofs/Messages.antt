-- The message of two nodes whose types clash prints their own types, as the definitions do.
use Rattle.std.proofs.Common.{◌≡◌, inl, inr, ℕ, zero, suc, ◌<◌, Bool, true, List, [], ◌++◌, length, map, Option, Some, refl, sym, ◌∙◌, ap, subst}
use Rattle.std.specs.Prelude.{slice_get, ◌≢◌}
use Rattle.tree_model.specs.Trees.{Place, Tree}
use Rattle.type_model.specs.Types.{Path, Typ, occurs, types_of}
use Rattle.type_model.specs.Origins.{rigid}
use Rattle.type_model.specs.Substitutions.{Subst, apply, after}
use Rattle.type_model.proofs.Applying.{eqb_same, apply-apply, occurs_put}
use Rattle.typed_model.specs.Over.{IsOver}
use Rattle.print_laws.proofs.Over.{prints_among_over}
use Rattle.type_model.specs.Types.{Typ as type}
use Rattle.signature_model.specs.Declarations.{Name}
use Rattle.signature_model.specs.Entries.{Environment}
use Rattle.type_print_model.specs.Variables.{variables_of}
use Rattle.type_print_model.specs.Printing.{mentions, PrintsAmong, PrintsTwo}
use Rattle.type_print_model.specs.Paths as model
use Rattle.fault_model.specs.Messages.{Ending, no_more, contains_itself, declared_later, mismatch_text, IsInside, IsCyclic, AreUnifiable, HasEnding, AreInstances, IsPairAt, HasPaths, IsMismatch}
use Rattle.typing_model.specs.Demands.{Site, Demand, equal}
use Rattle.typing_laws.specs.Renaming.{renaming, AreRenamed}
use Rattle.typing_laws.proofs.Renamed.{variable_in, is_renamed, puts_variables}
use Rattle.typing_laws.proofs.Alike.{print_both_alike}
use Rattle.type_terms.specs.declared.types.NodeRef.{NodeRef}
use Rattle.type_nodes.specs.Nodes.{Node, Var, Rigid, Link, Arrow, Tuple, Con, bound_level, IsSound, IsClosed}
use Rattle.type_nodes.specs.Links.{root}
use Rattle.type_nodes.proofs.Roots.{root_no_link}
use Rattle.type_nodes.specs.Readings.{Types}
use Rattle.level_unify.specs.declared.fault.ClashKind.{ClashKind}
use Rattle.level_unify.specs.declared.fault.ClashKind.TheVariants as clash
use Rattle.level_unify.specs.Unification.{HasKind}
use Rattle.level_unify.specs.Unification as nodes_one
use Rattle.level_unify.specs.Messages.{equal_text}
use Rattle.level_unify.specs.Solutions.{HaveNoBound}
use Rattle.level_unify.specs.Walks.{StandsIn}
use Rattle.level_unify.proofs.Steps.{cell_at}
use Rattle.level_unify.proofs.Solving.{loose_root, own_root}
use Rattle.level_unify.proofs.Variants.{stands_occurs}
use Rattle.env_table.specs.declared.entries.Entry.{Entry}
use Rattle.type_print.specs.Shown.{shown}
use Rattle.type_print.specs.Texts.{PrintsNamed, PrintsTwoIn}
use Rattle.type_print.proofs.Ascii.{ascii_cuttable}
use Rattle.typing_conditions.specs.Locals.{IsOwn}
use Rattle.typing_conditions.specs.Seeing.{StandsFor}
use Rattle.typing_conditions.specs.Carrying.{without_values, ShowsBoth}
use Rattle.typing_conditions.proofs.Roots.{own_reads}
use Rattle.print_laws.specs.Rigid.{HasNoRigid}
use Rattle.print_laws.specs.Ascii.{names_ascii}
use Rattle.print_laws.specs.Environments.{IsHidden}
use Rattle.print_laws.proofs.One.{one_text, prints_reached}
use Rattle.print_laws.proofs.Shown.{own_shown}
use Rattle.print_laws.proofs.Printing.{prints_named, text_is_ascii}
use Rattle.print_laws.proofs.Unifiable.{alike_unscoped, own_unifiable}
use Rattle.print_laws.proofs.Values.{reaches_but_values, prints_but_values, ascii_but_values}

-- what the code says behind two types, as an ending of the definitions
abbrev pub ending_of : ClashKind → Ending
ending_of clash.Shape = no_more
ending_of clash.Cycle = contains_itself
ending_of clash.Scope = declared_later

-- it is the same text
pub same_text : (found wanted : List ℕ) (k : ClashKind) → equal_text found wanted k ≡ mismatch_text found wanted (ending_of k)
same_text found wanted clash.Shape = refl
same_text found wanted clash.Cycle = refl
same_text found wanted clash.Scope = refl

module _ {nodes : List Node} (sound : IsSound nodes) (I : Types) (own : IsOwn nodes I) {names : List Entry} {found wanted : NodeRef} {message : List ℕ} (shows : ShowsBoth nodes names found wanted message) where
  -- a node that is a variable inside another one has that variable's type
  inside_own : (a b : ℕ) → nodes_one.IsInside nodes a b → (I a ≡ I b → ⊥) → IsInside (I a) (I b)
  inside_own a b h never =
      let free = h.0 in
      let var : I (root nodes a) ≡ type.Var (root nodes a) = own.vars (root nodes a) free.level free.scope free.reads in
      let is : I a ≡ type.Var (root nodes a) = loose_root nodes I own.loose a ∙ var in
      (root nodes a, is, (λ e. never (is ∙ sym e)), stands_occurs nodes I (root nodes a) b own.loose var h.2)

  -- and the other way round, where no bound variable stands in the first
  own_inside : (S : ℕ → Bool) → IsClosed nodes S → ((n level scope : ℕ) → S n ≡ true → slice_get nodes n ≡ Some (Var level scope) → level ≢ bound_level) → (a b : ℕ) → a < length nodes → b < length nodes → S a ≡ true → IsInside (I a) (I b) → nodes_one.IsInside nodes a b
  own_inside S closed free a b in_a in_b has (v, is, other, occ) =
      let (r_in, r_own) = own_root nodes a (root nodes a) sound in_a refl in
      let (c, e) = cell_at nodes (root nodes a) r_in in
      by c e
    where
      root_is : I (root nodes a) ≡ type.Var v
      root_is = sym (loose_root nodes I own.loose a) ∙ is

      by : (c : Node) → slice_get nodes (root nodes a) ≡ Some c → nodes_one.IsInside nodes a b
      by Rigid e = absurd (let f : rigid (root nodes a) ≡ type.Var v = sym (own.loose.each (root nodes a) Rigid e) ∙ root_is in cc)
      by (Link m) e = absurd (root_no_link nodes sound a (Link m) in_a e)
      by (Arrow x y) e = absurd (let f : type.Arrow (I x) (I y) ≡ type.Var v = sym (own.loose.each (root nodes a) (Arrow x y) e) ∙ root_is in cc)
      by (Tuple ms) e = absurd (let f : type.Tuple (types_of (map I ms)) ≡ type.Var v = sym (own.loose.each (root nodes a) (Tuple ms) e) ∙ root_is in cc)
      by (Con o x ms) e = absurd (let f : type.Con o (types_of (map I ms)) ≡ type.Var v = sym (own.loose.each (root nodes a) (Con o x ms) e) ∙ root_is in cc)
      by (Var l o) e =
          let same : v ≡ root nodes a = (let f : type.Var v ≡ type.Var (root nodes a) = sym root_is ∙ own.vars (root nodes a) l o e in cc) in
          let stands : StandsIn nodes (root nodes a) a = own.stands a (root nodes a) in_a (ap (occurs (root nodes a)) (is ∙ ap type.Var same) ∙ eqb_same (root nodes a)) in (
            record { inside = in_a; level = l; scope = o; reads = e; unbound = free (root nodes a) l o (stands.each S closed has) e },
            (λ one. other (loose_root nodes I own.loose b ∙ ap I (sym one) ∙ root_is)),
            own.stands b (root nodes a) in_b (ap (λ u. occurs u (I b)) (sym same) ∙ occ),
          )

  module _ (open_types : HaveNoBound nodes found.0 wanted.0) where
    cyclic : IsCyclic (I found.0) (I wanted.0) → nodes_one.IsCyclic nodes found.0 wanted.0
    cyclic (inl i) = inl (own_inside open_types.set open_types.closed open_types.free found.0 wanted.0 shows.left shows.right open_types.left i)
    cyclic (inr i) = inr (own_inside open_types.set open_types.closed open_types.free wanted.0 found.0 shows.right shows.left open_types.right i)

    ends : (k : ClashKind) → HasKind nodes found.0 wanted.0 k → HasEnding (I found.0) (I wanted.0) (ending_of k)
    ends clash.Shape h = (λ i. h.0 (cyclic i), λ u. h.1 (alike_unscoped nodes I own shows.left shows.right open_types u))
    ends clash.Scope h = (λ i. h.0 (cyclic i), own_unifiable nodes I own h.1)
    ends clash.Cycle h = elim h.0 [
      | inl i ↦ inl (inside_own found.0 wanted.0 i (λ e. shows.clashes.never.never I (own_reads nodes I own) e))
      | inr i ↦ inr (inside_own wanted.0 found.0 i (λ e. shows.clashes.never.never I (own_reads nodes I own) (sym e)))
    ]

    -- So where the names in scope stand for those of an environment, but for values, in which names have one byte a character and a path reaches each origin of the two types, and no rigid variable stands in these, the message prints them with its names.
    pub message_prints : {E F : Environment} → StandsFor I names E → without_values E ≡ without_values F → names_ascii F ≡ true → HasNoRigid (I found.0) → HasNoRigid (I wanted.0) →
        HasPaths F (I found.0) → HasPaths F (I wanted.0) → IsMismatch F (I found.0) (I wanted.0) message
    message_prints {E} {F} stands alike ascii clean_found clean_wanted reached_found reached_wanted = record {
      found_paths = reached_found;
      wanted_paths = reached_wanted;
      declared = two.declared;
      first = shows.first;
      second = shows.second;
      prints = subst (λ t. PrintsTwo model.naming F two.declared t (I wanted.0) shows.first shows.second) (sym is_found)
          (subst (λ u. PrintsTwo model.naming F two.declared (shown nodes found.0) u shows.first shows.second) (sym is_wanted) (
            among (shown nodes found.0) shows.first (λ o m. reached_found o (subst (λ t. mentions o t ≡ true) (sym is_found) m)) two.prints_first,
            among (shown nodes wanted.0) shows.second (λ o m. reached_wanted o (subst (λ t. mentions o t ≡ true) (sym is_wanted) m)) two.prints_second,
          ));
      ending = ending_of shows.clash.kind;
      ends = ends shows.clash.kind shows.clashes.kind;
      says = shows.says ∙ same_text shows.first shows.second shows.clash.kind;
    }
      where
        is_found : I found.0 ≡ shown nodes found.0
        is_found = own_shown nodes sound I own found.0 shows.left clean_found

        is_wanted : I wanted.0 ≡ shown nodes wanted.0
        is_wanted = own_shown nodes sound I own wanted.0 shows.right clean_wanted

        two : PrintsTwoIn nodes names (shown nodes found.0) (shown nodes wanted.0) shows.first shows.second
        two = shows.texts.inside

        all : List ℕ
        all = variables_of (shown nodes found.0) ++ variables_of (shown nodes wanted.0)

        among : (t : Typ) (text : List ℕ) → HasPaths F t → PrintsNamed names two.declared [] all t text → PrintsAmong model.naming F two.declared [] all t text
        among t text reached p =
            prints_but_values alike two.declared [] all t text
            (prints_named stands.are two.declared [] all t text (p (ascii_cuttable _ (text_is_ascii stands.are (ascii_but_values E F alike ascii) two.declared [] all t (λ o m none. (let (p, r) = reached o m in absurd (none p (reaches_but_values (sym alike) o p r))))))))

-- the types of two nodes
abbrev pub both : Typ → Typ → ℕ → Typ
both t u zero = t
both t u (suc n) = u

-- the two types of one demand
found_in : Demand → Typ
found_in (equal a b) = a
found_in _ = type.Var 0

wanted_in : Demand → Typ
wanted_in (equal a b) = b
wanted_in _ = type.Var 0

one_demand : {x y : Place × Demand} → Some x ≡ Some y → x.1 ≡ y.1
one_demand {x} {y} e = let f : x ≡ y = cc in ap (λ (z : Place × Demand). z.1) f

first_is : {p q : Place} {a b c d : Typ} → ◌≡◌ {A = Option (Place × Demand)} (Some (p, equal a b)) (Some (q, equal c d)) → a ≡ c
unfolding found_in
first_is e = ap found_in (one_demand e)

second_is : {p q : Place} {a b c d : Typ} → ◌≡◌ {A = Option (Place × Demand)} (Some (p, equal a b)) (Some (q, equal c d)) → b ≡ d
unfolding wanted_in
second_is e = ap wanted_in (one_demand e)

-- Two pairs of one demand are renamings of each other.
pub pairs_renamed : {env : Environment} {text : List Tree} {kept : Site → Bool} {s : Site} {at place : Place} {t u x y : Typ} → IsPairAt env text kept s at t u → IsPairAt env text kept s place x y → AreRenamed (both t u) (both x y)
pairs_renamed {t = t} {u = u} {x = x} {y = y} p q =
    let (at_q, t', u', asks_q, to) = p.general q.choice q.holds in
    let (at_p, x', y', asks_p, back) = q.general p.choice p.holds in
    let r = to.types in
    let z = back.types in
    let is_q = sym q.asks ∙ asks_q in
    let is_p = sym p.asks ∙ asks_p in
    let gives_x : x ≡ apply r t = first_is is_q ∙ to.first in
    let gives_y : y ≡ apply r u = second_is is_q ∙ to.second in
    let gives_t : t ≡ apply z x = first_is is_p ∙ back.first in
    let gives_u : u ≡ apply z y = second_is is_p ∙ back.second in
    record {
      forth = λ v. variable_in (r v);
      back = λ v. variable_in (z v);
      gives = gives r z gives_x gives_y gives_t gives_u;
      undone = undone r z gives_x gives_y gives_t gives_u;
    }
  where
    gives : (r z : Subst) → x ≡ apply r t → y ≡ apply r u → t ≡ apply z x → u ≡ apply z y → (n : ℕ) → both x y n ≡ apply (renaming (λ v. variable_in (r v))) (both t u n)
    gives r z e f g h zero = is_renamed r z t x e g
    gives r z e f g h (suc n) = is_renamed r z u y f h

    undone : (r z : Subst) → x ≡ apply r t → y ≡ apply r u → t ≡ apply z x → u ≡ apply z y → (n v : ℕ) → occurs v (both t u n) ≡ true → variable_in (z (variable_in (r v))) ≡ v
    undone r z e f g h zero v o = ap variable_in (puts_variables r z t x e g v o).1
    undone r z e f g h (suc n) v o = ap variable_in (puts_variables r z u y f h v o).1

-- So they print alike: the message of a demand has one text for each of its types, where a path reaches each origin in these.
pub pairs_print_alike : {env : Environment} {text : List Tree} {kept : Site → Bool} {s : Site} {at place : Place} {t u x y : Typ} → IsPairAt env text kept s at t u → IsPairAt env text kept s place x y → (names : Environment) → ((o : Path) → mentions o x ≡ true → IsHidden names o → ⊥) → ((o : Path) → mentions o y ≡ true → IsHidden names o → ⊥) →
    (declared others : Path → Name) (first second first' second' : List ℕ) → PrintsTwo model.naming names declared t u first second → PrintsTwo model.naming names others x y first' second' → (first ≡ first') × (second ≡ second')
pairs_print_alike {t = t} {u = u} {x = x} {y = y} p q names reached_x reached_y declared others first second first' second' prints prints' =
    let all = variables_of x ++ variables_of y in
    let (one, two) = print_both_alike model.naming names declared (both t u) (both x y) (pairs_renamed p q) 0 1 first second prints in (
      one_text names others [] all x first first' (prints_reached names declared others [] all x first reached_x one) prints'.0,
      one_text names others [] all y second second' (prints_reached names declared others [] all y second reached_y two) prints'.1,
    )

-- types of which two others are instances can be made one where those can
unifiable_back : {t u x y : Typ} → AreInstances t u x y → AreUnifiable t u → AreUnifiable x y
unifiable_back {x = x} {y = y} p (s, e) = (after s p.types, sym (apply-apply s p.types x) ∙ ap (apply s) (sym p.first) ∙ e ∙ ap (apply s) p.second ∙ apply-apply s p.types y)

-- a type of which a variable is an instance is a variable
variable_back : (z : Subst) (x : Typ) (v : ℕ) → type.Var v ≡ apply z x → (w : ℕ) × (x ≡ type.Var w)
variable_back z (type.Var w) v e = (w, refl)
variable_back z (type.Arrow a b) v e = absurd (cc)
variable_back z (type.Tuple ts) v e = absurd (cc)
variable_back z (type.Con o ts) v e = absurd (cc)

-- where two types come from two others and these from them, one of the first stands in the other where it does in the others
inside_back : {t u x y : Typ} → AreInstances t u x y → AreInstances x y t u → IsInside t u → IsInside x y
inside_back {t} {u} {x} {y} p q (v, is, other, occ) =
    let (w, is_x) = variable_back p.types x v (sym is ∙ p.first) in
    let put : type.Var w ≡ q.types v = sym is_x ∙ q.first ∙ ap (apply q.types) is in (
      w,
      is_x,
      (λ e. other (p.second ∙ ap (apply p.types) (e ∙ sym is_x) ∙ sym p.first ∙ is)),
      ap (occurs w) q.second ∙ occurs_put q.types v w u occ (ap (occurs w) (sym put) ∙ eqb_same w),
    )

swapped : {t u x y : Typ} → AreInstances t u x y → AreInstances u t y x
swapped p = record { types = p.types; first = p.second; second = p.first }

cyclic_back : {t u x y : Typ} → AreInstances t u x y → AreInstances x y t u → IsCyclic t u → IsCyclic x y
cyclic_back p q (inl i) = inl (inside_back p q i)
cyclic_back p q (inr i) = inr (inside_back (swapped p) (swapped q) i)

-- they have the same ending
ending_one : {t u x y : Typ} → AreInstances t u x y → AreInstances x y t u → (d e : Ending) → HasEnding t u d → HasEnding x y e → d ≡ e
ending_one p q no_more no_more h g = refl
ending_one p q no_more contains_itself h g = absurd (h.0 (cyclic_back q p g))
ending_one p q no_more declared_later h g = absurd (h.1 (unifiable_back q g.1))
ending_one p q contains_itself no_more h g = absurd (g.0 (cyclic_back p q h))
ending_one p q contains_itself contains_itself h g = refl
ending_one p q contains_itself declared_later h g = absurd (g.0 (cyclic_back p q h))
ending_one p q declared_later no_more h g = absurd (g.1 (unifiable_back p h.1))
ending_one p q declared_later contains_itself h g = absurd (h.0 (cyclic_back q p g))
ending_one p q declared_later declared_later h g = refl

-- the types of one pair are instances of those of another
pairs_instances : {env : Environment} {text : List Tree} {kept : Site → Bool} {s : Site} {at place : Place} {t u x y : Typ} → IsPairAt env text kept s at t u → IsPairAt env text kept s place x y → AreInstances x y t u
pairs_instances p q =
    let (at_q, t', u', asks, to) = p.general q.choice q.holds in
    let is = sym q.asks ∙ asks in
    record { types = to.types; first = first_is is ∙ to.first; second = second_is is ∙ to.second }

-- So a demand has one message, with names in scope that are those of one environment but for values and exceptions before it.
pub one_message : {env : Environment} {text : List Tree} {kept : Site → Bool} {s : Site} {at place : Place} {t u x y : Typ} → IsPairAt env text kept s at t u → IsPairAt env text kept s place x y → {E F : Environment} → IsOver env E → IsOver env F →
    (message other : List ℕ) → IsMismatch E t u message → IsMismatch F x y other → message ≡ other
one_message {t = t} {u = u} p q {E} {F} over_E over_F message other m n =
    let all = variables_of t ++ variables_of u in
    let (one, two) = pairs_print_alike p q F (λ o i none. let (a, b) = n.found_paths o i in none a b) (λ o i none. let (a, b) = n.wanted_paths o i in none a b) m.declared n.declared m.first m.second n.first n.second (prints_among_over over_E over_F m.declared [] all t m.first m.prints.0, prints_among_over over_E over_F m.declared [] all u m.second m.prints.1) n.prints in
    let ends_one = ending_one (pairs_instances q p) (pairs_instances p q) m.ending n.ending m.ends n.ends in
    m.says ∙ (λ i. mismatch_text (one i) (two i) (ends_one i)) ∙ sym n.says
