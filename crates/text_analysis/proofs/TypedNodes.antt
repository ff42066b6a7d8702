-- What is recorded for the expressions and patterns of items that are `let` and `;;` alone: the types of a principal typing, and names in scope by which types are named as in the definitions.
use Rattle.std.proofs.Common.{◌≡◌, ◌∙◌, ℕ, zero, suc, ◌<◌, true, Option, None, Some, List, [], ◌∷◌, length, refl, sym, ap, subst}
use Rattle.std.specs.Prelude.{option_map, All}
use Rattle.std.proofs.lemmas.List.Elements.{All-nil, All-cons}
use Rattle.tree_model.specs.Trees.{Tree}
use Rattle.type_model.specs.Types.{Path, Typ}
use Rattle.signature_model.specs.Declarations.{Name}
use Rattle.signature_model.specs.Entries.{Environment}
use Rattle.typing_model.specs.First.{IsFirst}
use Rattle.typed_model.specs.Shown.{IsTypingOf, IsCalled}
use Rattle.fault_model.specs.Refused.{AreOfValues}
use Rattle.type_terms.specs.declared.types.NodeRef.{NodeRef}
use Rattle.type_nodes.specs.Nodes.{Node, IsPlain, IsSound}
use Rattle.type_nodes.specs.Links.{root}
use Rattle.type_nodes.specs.Views.{numbers}
use Rattle.type_nodes.specs.Readings.{Types}
use Rattle.type_print_model.specs.Paths as model
use Rattle.type_print_model.specs.Paths.{IsNameOf}
use Rattle.type_print_model.specs.Printing.{mentions}
use Rattle.type_print.specs.Paths.{naming}
use Rattle.type_print.specs.Shown.{shown}
use Rattle.type_print.specs.Texts.{IsAscii}
use Rattle.env_table.specs.declared.entries.Entry.{Entry}
use Rattle.env_table.specs.declared.seen.Seen.{Seen}
use Rattle.typed_index.specs.Seen.{seen_at}
use Rattle.typing_state.specs.declared.parts.Parts.{Parts}
use Rattle.typing_conditions.specs.Locals.{IsOwn}
use Rattle.typing_conditions.specs.Sights.{number_in, Letters}
use Rattle.typing_conditions.specs.Seeing.{IsSeen}
use Rattle.typing_conditions.proofs.Adequate.{kept_of}
use Rattle.typing_steps.specs.States.{sight, type_in}
use Rattle.typing_steps.proofs.Schemes.{plain_nodes}
use Rattle.binding_rows.specs.Outside.{AreInside}
use Rattle.typing_rows.specs.Noted.{AreNoted}
use Rattle.print_laws.proofs.Naming.{names_as}
use Rattle.print_laws.proofs.Shown.{own_shown}
use Rattle.print_laws.specs.Rigid.{HasNoRigid}
use Rattle.text_laws.proofs.Orderly.{values_orderly}
use Rattle.text_laws.proofs.Kept.{met, text_kept}
use Rattle.text_laws.proofs.Principal.{sure_principal}
use Rattle.text_laws.proofs.Typed.{text_seen}
use Rattle.prelude_checks.proofs.ValueTypes.{values_clean, values_called}
use Rattle.module_steps.specs.declared.scenes.Scene.{Scene}
use Rattle.analysis_api.specs.declared.Analysis.{Analysis}
use Rattle.analysis_api.specs.Types.{HasType, AreTyped, AreSettled}
use Rattle.typing_model.specs.Items.{behind_items}
use Rattle.typing_model.specs.Meanings.{items_of}
use Rattle.typing_model.specs.Plain.{has_lets_alone}
use Rattle.typing_model.specs.Typings.{outermost, conditions_of}
use Rattle.typing_laws.proofs.Closed.{first_closed}
use Rattle.typed_model.specs.Weak.{AreWeak}
use Rattle.typing_conditions.specs.Assumptions.{SchemeReads}
use Rattle.typing_conditions.specs.Environments.{EnvAs}
use Rattle.typing_conditions.specs.Judging.{AreKept}
use Rattle.typing_conditions.specs.Standing.{IsIn}
use Rattle.typing_conditions.proofs.Own.{own_of}
use Rattle.typing_conditions.proofs.Roots.{own_reads}
use Rattle.typing_steps.specs.Typing.{as_declared}
use Rattle.binding_rows.specs.Outside.{AreMet}
use Rattle.weak_variables.specs.Free.{IsFound, FreeOf}
use Rattle.weak_variables.proofs.Standing.{free_inside}
use Rattle.weak_variables.proofs.Searching.{root_of_free}
use Rattle.weak_variables.proofs.Names.{same_length}
use Rattle.weak_variables.proofs.Behind.{lets_behind_over}
use Rattle.weak_variables.proofs.Weak.{are_weak}
use Rattle.text_analysis.specs.Weak.{HasFree}
use Rattle.text_analysis.specs.Given.{Given, Opens}
use Rattle.text_analysis.proofs.Values.{values_are_carried}
use Rattle.text_analysis.proofs.Refused.{are_small, all_keep, all_add, all_placed}

-- what is seen of a node is one record of the index: its names in scope, and its type
record IsRecord (at : Parts) (i p : ℕ) (env : List Entry) (m : ℕ) : Type 0 where
  seen : Seen
  there : seen_at at.index i p ≡ Some seen
  names : seen.env ≡ env
  typed : option_map (λ (k : NodeRef). k.0) seen.ty ≡ Some m

one_record : (at : Parts) (i p m : ℕ) (env : List Entry) → (sight at).scopes i p ≡ Some env → (sight at).types i p ≡ Some m → IsRecord at i p env m
one_record at i p m env names typed = by (seen_at at.index i p) refl names typed
  where
    one_env : (x y : List Entry) → Some x ≡ Some y → x ≡ y
    one_env x y e = cc

    by : (o : Option Seen) → seen_at at.index i p ≡ o → option_map (λ (s : Seen). s.env) o ≡ Some env → type_in o ≡ Some m → IsRecord at i p env m
    by None e f g = absurd (let z : None ≡ Some env = f in cc)
    by (Some s) e f g = record { seen = s; there = e; names = one_env s.env env f; typed = g }

-- What is known of such items: each node that is told with its type has it, and what was found for them is what is free in the names after them.
pub record Settles (first : Parts) (env : List Entry) (items : List Tree) (last : Parts) (now : Scene) (x : Analysis) : Type 0 where
  pub typed : AreTyped items x
  pub weak : has_lets_alone items ≡ true → (free : List (List ℕ)) → HasFree first env items last.store.nodes now.env free → (ws : List ℕ) → FreeOf last.store.nodes (IsFound free) ws → AreWeak items typed.typing.env typed.typing.kept typed.typing.choice ws

-- So where such items were typed from the state after the prelude, each node that is told with its type has it, and the weak variables are those that were found.
pub items_typed : {first : Parts} {env : List Entry} {items : List Tree} {last : Parts} {now : Scene} → Given first env items last now → Opens first env → IsPlain last.store.nodes → (names : Environment) → IsFirst names → AreOfValues items →
    (x : Analysis) → x.store.now ≡ last.store → x.index.now ≡ last.index → Settles first env items last now x
items_typed {first} {env} {items} {last} {now} given o plain names is_first t x store index =
    let at = o.starts names is_first in
    let outside = at.starts.outside in
    let noted : AreNoted outside.older first = subst (λ U. AreNoted U first) (sym at.starts.older) at.noted in
    let done = (given [] (λ ch. names) (values_are_carried items t) o.aloud outside at.constants noted).done in
    let sure = done.clear (at.known, all_keep items t.values t.bare) (all_placed last) in
    let (h, principal, own, alike) = sure_principal {env = names} {text = items} done.carried done.owners at.untyped outside.sound t.values t.bare (are_small items t.few) (plain_nodes last.store.nodes plain) sure (all_placed last) in
    let typing : IsTypingOf items = record {
      env = names;
      first = is_first;
      kept = kept_of done.carried.judged;
      keeps = text_kept (values_orderly {env = names} {text = items} t.values) h;
      choice = h.choice;
      principal = principal;
      holds = (met h).holds;
    } in
    let typed : AreTyped items x = record {
      typing = typing;
      each = λ n E u told.
          let seen = text_seen done.carried h alike (done.sees (at.known, all_keep items t.values t.bare)) n E u told in
          let a_inside : AreInside (sight first) [] = record { recorded = λ i p m e. absurd (none_some m (sym (at.untyped i p) ∙ e)); given = tt } in
          has_type h.types own (done.carried.stays.sound outside.sound) (done.carried.stays.inside a_inside) n E (h.choice.type_at n) seen (λ i p m e number. ap h.choice.type_at number ∙ h.reads.agrees.recorded i p m e)
          (values_clean items t.values t.bare typing n E u told) (values_called items t.values t.bare typing n E u told);
    } in
    let asked_of = outermost names typing.kept h.choice in
    let met_too : AreMet asked_of (conditions_of names items typing.kept h.choice) done.carried.judged = record { kept = subst (λ p. AreKept typing.kept p.judged) alike h.reads.kept; holds = (met h).holds } in
    let behind : behind_items asked_of (items_of items) ≡ done.env h.choice = done.behind h.types asked_of refl own.loose h.reads.agrees met_too in
    let stands = (done.outside.reads h.types h.types h.choice own h.reads.reads h.reads.agrees).names in
    let (K, first_own) = own_of first.store.nodes outside.sound in
    let long = same_length (outside.reads K K h.choice first_own (own_reads first.store.nodes K first_own) (record { recorded = λ i p m e. absurd (none_some m (sym (at.untyped i p) ∙ e)); known = λ i p m e. absurd (none_some m (sym (at.untyped i p) ∙ e)); given = tt })).names in
    record {
      typed = typed;
      weak = λ lets free has ws of. are_weak last.store.nodes h.types own done.outside.roots now.env env (behind_items asked_of (items_of items)) names
          (subst (EnvAs (λ r sc. SchemeReads last.store.nodes h.types r sc × IsIn done.outside.roots r) (as_declared.declaration last.store.nodes done.outside.roots done.outside.names) (as_declared.exception last.store.nodes done.outside.roots done.outside.names) now.env) (sym behind) stands)
          (lets_behind_over names items typing.kept h.choice lets) (first_closed names is_first) long free (has.listed o (values_are_carried items t) (all_add items lets)) ws of;
    }
  where
    none_some : (m : ℕ) → None ≡ Some m → ⊥
    none_some m e = cc

    has_type : {G : Letters} (V : Types) → IsOwn last.store.nodes V → IsSound last.store.nodes → AreInside (sight last) G → (n : ℕ) (E : Environment) (u : Typ) → IsSeen (sight last).scopes (sight last).types V n E true →
        ((i p m : ℕ) → (sight last).types i p ≡ Some m → n ≡ number_in i p → u ≡ V m) → HasNoRigid u →
        ((declared : Path → Name) (o : Path) (s : List ℕ) → mentions o u ≡ true → IsNameOf model.naming E declared o s → IsCalled E o s × IsAscii s) → HasType x n E u
    has_type V own sound inside n E u seen is clean called =
        let (m, typed) = seen.typed refl in
        let one = one_record last seen.item seen.place m seen.env seen.at typed in
        let there : m < length last.store.nodes = inside.recorded seen.item seen.place m typed in
        let equal = is seen.item seen.place m typed seen.number in
        record {
          item = seen.item;
          place = seen.place;
          number = seen.number;
          seen = one.seen;
          at = ap (λ z. seen_at z seen.item seen.place) index ∙ one.there;
          node = m;
          typed = one.typed;
          inside = subst (λ z. m < length z.nodes) (sym store) there;
          shows = ap (λ z. shown z.nodes m) store ∙ sym (own_shown last.store.nodes sound V own m there (subst HasNoRigid equal clean)) ∙ sym equal;
          called = λ declared origin s within named. called declared origin s within (names_as seen.stands.are declared origin s (subst (λ es. IsNameOf naming es declared origin s) one.names named));
        }

-- free variables are listed by their own nodes
pub free_own : (nodes : List Node) (F : ℕ → Type 0) (ws : List ℕ) → FreeOf nodes F ws → All (λ v. (v < length nodes) × (root nodes v ≡ v)) ws
free_own nodes F ws of = all_at ws (λ v is. let (n, found, f) = of.only v is in (free_inside nodes v f.var, root_of_free nodes v f.var))
  where
    all_at : (vs : List ℕ) → ((v : ℕ) → IsIn vs v → (v < length nodes) × (root nodes v ≡ v)) → All (λ v. (v < length nodes) × (root nodes v ≡ v)) vs
    all_at [] h = All-nil (λ v. (v < length nodes) × (root nodes v ≡ v))
    all_at (v ∷ vs) h = All-cons (λ v. (v < length nodes) × (root nodes v ≡ v)) v vs (h v (zero, refl)) (all_at vs (λ u is. h u (suc is.0, is.1)))

-- So where the variables that are listed are those that are free then, they are the weak ones.
pub items_settled : {first : Parts} {env : List Entry} {items : List Tree} {last : Parts} {now : Scene} (x : Analysis) → Settles first env items last now x → (free : List (List ℕ)) → HasFree first env items last.store.nodes now.env free → x.store.now ≡ last.store → FreeOf last.store.nodes (IsFound free) (numbers x.weak.now) → AreSettled items x
items_settled {last = last} x s free has store of = record {
  typed = s.typed;
  own = subst (λ z. All (λ v. (v < length z.nodes) × (root z.nodes v ≡ v)) (numbers x.weak.now)) (sym store) (free_own last.store.nodes (IsFound free) (numbers x.weak.now) of);
  weak = λ alone. s.weak alone free has (numbers x.weak.now) of;
}
