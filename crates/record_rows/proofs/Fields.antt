-- The fields of a record pattern, each after the labels and the names of those before.
use Rattle.std.proofs.Common.{◌≡◌, ◌∙◌, ◌++◌, ℕ, Bool, true, false, List, [], ◌∷◌, Option, Some, None, option_map, refl, sym, ap, subst, append-nil, if◌then◌else◌, append_assoc}
use Rattle.token_model.specs.Kinds.{Tok}
use Rattle.type_model.specs.Types.{Typ}
use Rattle.signature_model.specs.Declarations as rules
use Rattle.signature_model.specs.Declarations.{Name, type_of}
use Rattle.typing_model.specs.Contexts.{Choice, Context, tell}
use Rattle.typing_model.specs.Names.{then_by}
use Rattle.typing_model.specs.Parts.{Written, Pattern, FieldPattern}
use Rattle.typing_model.specs.Records.{ask_once, used_in_record, field_type, find_label, name_in, labels_in}
use Rattle.typing_model.specs.Patterns.{match_field, match_fields, names_in_field, mentions_in_field}
use Rattle.env_table.specs.declared.entries.Entry.{Entry}
use Rattle.typing_state.specs.declared.parts.Parts.{Parts}
use Rattle.typing_state.specs.Goes.{Goes}
use Rattle.typing_conditions.specs.Sights.{Sight, Letters, AreNodes}
use Rattle.typing_conditions.specs.Frames.{Frame}
use Rattle.typing_conditions.specs.Carrying.{Scope, Stays, Carried, at_node}
use Rattle.typing_conditions.specs.Surroundings.{Surrounds}
use Rattle.typing_conditions.specs.Hiding.{ArePlaced, AreDone, IsAmong}
use Rattle.typing_conditions.proofs.Carried.{carried_refl, carried_trans, carried_as, done_as, done_then, done_last, carried_row, row_hides}
use Rattle.typing_conditions.proofs.Meaning.{means_on, nodes_in}
use Rattle.typing_conditions.proofs.Recording.{told_at}
use Rattle.typing_conditions.proofs.Stays.{stays_closed}
use Rattle.typing_conditions.proofs.Surrounding.{surrounds_on, surrounds_sees, surrounds_at, own_node}
use Rattle.typing_conditions.proofs.Hiding.{keeps_same, done_none, done_both, done_on, done_sure}
use Rattle.typing_conditions.proofs.Keeping.{all_among, among_before, carried_kept, kept_hides}
use Rattle.typing_steps.specs.States.{is_aloud, sight}
use Rattle.typing_steps.specs.Typing.{as_declared}
use Rattle.typing_steps.specs.Building.{HasIfThere}
use Rattle.record_steps.specs.Alike.{SameRecord}
use Rattle.record_steps.specs.Recording.{AsksNothing, HasScope, field_used_in}
use Rattle.record_steps.proofs.Fielded.{stands_on}
use Rattle.record_steps.proofs.Named.{same_field}
use Rattle.record_steps.proofs.Uses.{use_on}
use Rattle.pattern_rows.specs.Applied.{MatchesAsIf, MatchesWanted}
use Rattle.pattern_rows.specs.Bounds.{Bind, AllBound, none_bound, Adds}
use Rattle.pattern_rows.proofs.Naming.{all_bound_on, all_bound_both, adds_none, adds_both}
use Rattle.pattern_rows.proofs.Opened.{done_grouped, done_told}
use Rattle.record_rows.specs.Fields.{RecordHere, KnownAs, BeginsField, names_of_fields, mentions_of_fields, chosen_in, field_rest, FieldEnded, EndsField, FieldAdds, MatchesFields, MatchesFieldsFirst, FieldsInOrder, FieldsInOrderFirst}
use Rattle.record_rows.proofs.Opened.{scope_on, stays_more, stays_without}

-- what is known of a record type stays known
pub known_on : {F : Frame} {a b : Sight} {G H : Letters} (n : ℕ) (here : RecordHere) (found : Option rules.Declaration) → Stays F a G b H → KnownAs F a G n here found → KnownAs F b H n here found
known_on n None None s h = tt
known_on n None (Some e) s h = h
known_on n (Some r) None s h = h
known_on n (Some r) (Some e) s h = (stands_on s h.1.open_node.reached h.0, means_on s h.1, λ known. use_on e r.1 s h.1.open_node.reached (h.2 known))

-- whether there is one
abbrev pub is_there : Option rules.Declaration → Bool
is_there found = elim found [ None ↦ false | Some d ↦ true ]

-- the type of a written label, by the declaration that is found
abbrev pub type_in : ℕ → ℕ → Option rules.Declaration → Written → Option (Choice → Typ)
type_in n k None p = None
type_in n k (Some d) p = field_used_in n k d p

-- it is what the definitions take
pub field_is : (c : Context) (n k : ℕ) (found : Option rules.Declaration) (p : Written) → chosen_in c (type_in n k found p) ≡ field_type c n k found p
field_is c n k None p = refl
field_is c n k (Some d) p = by p.last
  where
    used : Typ → Choice → Typ
    used = used_in_record n k (type_of d)

    inside : (x : Option rules.Label) → chosen_in c (option_map used (option_map (λ (l : rules.Label). l.body) x)) ≡ option_map (λ (l : rules.Label). used l.body c.chosen) x
    inside None = refl
    inside (Some l) = refl

    by : (o : Option Tok) → chosen_in c (option_map used (then_by o (λ t. option_map (λ (l : rules.Label). l.body) (find_label t.name (labels_in d.shape))))) ≡ then_by o (λ t. option_map (λ (l : rules.Label). used l.body c.chosen) (find_label t.name (labels_in d.shape)))
    by None = refl
    by (Some t) = inside (find_label t.name (labels_in d.shape))

-- a field with a pattern of its own, which has the type of the field; its node is recorded before
pub pattern_ends : (b d : Parts) (env : List Entry) (k : ℕ) (l : Written) (p : Pattern) (names names' : List Bind) (seen seen' : List Name) (ty : Option ℕ) → (is_aloud b.telling ≡ true → HasScope (sight b) k env) → MatchesWanted b d env p names names' seen seen' ty →
    FieldAdds b d env (record { node = k; label = l; pattern = Some p }) names names' seen seen' ty
pattern_ends b d env k l p names names' seen seen' ty recorded matched = record { added = matched.added; adds = matched.adds; typed = record { opens = matched.opens; typed = λ aloud F scope G n t its s has. by aloud F scope G n t ty its s has matched.typed } }
  where
    by : is_aloud b.telling ≡ true → (F : Frame) (scope : Scope) (G : Letters) (n : ℕ) (t : Option (Choice → Typ)) (ty : Option ℕ) → scope.own k ≡ true → Surrounds as_declared F (sight b) G env scope → HasIfThere F (sight b) G t ty → MatchesAsIf b d env p seen matched.added matched.opens ty →
        FieldEnded env F scope (sight b) G (sight d) n (record { node = k; label = l; pattern = Some p }) seen t matched.added matched.opens
    by aloud F scope G n None None its s has typed = let x = typed aloud F scope G s in record { carried = x.carried; done = x.done; names = x.names; scoped = scope_on x.carried.stays (recorded aloud) }
    by aloud F scope G n (Some t) (Some m) its s has typed = let x = typed aloud F scope G k 1 t its s has in record { carried = x.carried; done = x.done; names = x.names; scoped = scope_on x.carried.stays (recorded aloud) }
    by aloud F scope G n None (Some m) its s has typed = absurd has
    by aloud F scope G n (Some t) None its s has typed = absurd has

-- the beginning of a field, whatever is known of its record
pub record FieldBegun (F : Frame) (scope : Scope) (a : Sight) (G : Letters) (b : Sight) (n k : ℕ) (found : Option rules.Declaration) (labels : List Name) (p : Written) (ty : Option ℕ) : Type 0 where
  pub letters : Letters
  pub inside : AreNodes letters b.nodes
  pub carried : Carried F scope (λ c. if is_there found then ask_once k 0 labels p else []) a G b (letters ++ G)
  pub none : F.known ≡ true → letters ≡ []
  pub has_type : HasIfThere F b (letters ++ G) (type_in n k found p) ty

pub field_begun : (a b : Parts) {F : Frame} {scope : Scope} {G : Letters} (n k : ℕ) (here : RecordHere) (found : Option rules.Declaration) (labels : List Name) (p : Written) (ty : Option ℕ) → is_aloud a.telling ≡ true → KnownAs F (sight a) G n here found → BeginsField here a b labels p ty →
    FieldBegun F scope (sight a) G (sight b) n k found labels p ty
field_begun a b {F} {scope} {G} n k None None labels p ty aloud known (none, same) = record {
  letters = [];
  inside = tt;
  carried = subst (λ z. Carried F scope (λ c. []) (sight a) G (sight z) G) (sym same) carried_refl;
  none = λ all_known. refl;
  has_type = subst (HasIfThere F (sight b) G None) (sym none) tt;
}
field_begun a b n k None (Some e) labels p ty aloud known begins = absurd known
field_begun a b n k (Some r) None labels p ty aloud known begins = absurd known
field_begun a b {F} {scope} {G} n k (Some r) (Some e) labels p ty aloud known begins =
    let x = begins aloud F scope G n k e known.0 known.1 known.2 in
    record { letters = x.letters; inside = x.inside; carried = x.carried; none = x.none; has_type = x.has_type }

-- the type of a field stays
pub has_on : {F : Frame} {a b : Sight} {G H : Letters} (t : Option (Choice → Typ)) (ty : Option ℕ) → Stays F a G b H → HasIfThere F a G t ty → HasIfThere F b H t ty
has_on None None s h = tt
has_on None (Some m) s h = h
has_on (Some t) None s h = h
has_on (Some t) (Some m) s h = means_on s h

-- what the calls of a field ask is what the definitions do
field_asked : (c : Context) (n : ℕ) (found : Option rules.Declaration) (f : FieldPattern) (labels now : List Name) →
    tell f.node c ++ (((if is_there found then ask_once f.node 0 labels f.label else []) ++ []) ++ field_rest c f now (chosen_in c (type_in n f.node found f.label))) ≡ match_field c n (is_there found) f labels now (field_type c n f.node found f.label)
field_asked c n found f labels now =
    let e = append-nil (if is_there found then ask_once f.node 0 labels f.label else []) in
    let t = field_is c n f.node found f.label in
    (λ i. tell f.node c ++ (e i ++ field_rest c f now (t i)))

-- no field yet
pub fields_none : (a : Parts) (env : List Entry) (here : RecordHere) (fs : List FieldPattern) (seen : List Name) → MatchesFieldsFirst a a env here fs fs seen [] seen []
fields_none a env here fs seen = record {
  opens = [];
  typed = λ aloud F scope K G n found s nodes known. record { done = λ c. []; bounds = []; carried = carried_refl; rows_done = done_none; names = none_bound; asks = λ c. refl; binds = refl };
}

-- One field more: its beginning, the record of its node, and its rest; its node is recorded by its end.
pub fields_more : (a b mid told d : Parts) (env : List Entry) (here : RecordHere) (all left rest : List FieldPattern) (f : FieldPattern) (seen labels now after : List Name) (added more : List Bind) (ty : Option ℕ) →
    left ≡ f ∷ rest → after ≡ now ++ mentions_in_field f → Goes a b → Goes b mid → Goes mid told → MatchesFieldsFirst a b env here all left seen labels now added → BeginsField here b mid labels f.label ty → AsksNothing mid told →
    EndsField told d env f now more ty → MatchesFieldsFirst a d env here all rest seen (labels ++ name_in f.label) after (added ++ more)
fields_more a b mid told d env here all left rest f seen labels now after added more ty split later goes goes' goes'' first begins noted ends = record {
  opens = ends.opens ++ first.opens;
  typed = λ aloud F scope K G n found s nodes known.
      let x = first.typed aloud F scope K G n found s nodes known in
      let loud : is_aloud b.telling ≡ true = ap is_aloud goes.telling ∙ aloud in
      let louder : is_aloud told.telling ≡ true = ap is_aloud goes''.telling ∙ ap is_aloud goes'.telling ∙ loud in
      let H : Letters = first.opens ++ (K ++ G) in
      let inner = at_node f.node scope in
      let y = field_begun b mid {scope = inner} n f.node here found labels f.label ty loud (known_on n here found x.carried.stays known) begins in
      let z = noted F inner (y.letters ++ H) in
      let has = has_on (type_in n f.node found f.label) ty z.stays y.has_type in
      let outer : Surrounds as_declared F (sight a) (K ++ G) env scope = surrounds_on (stays_more K nodes) s in
      let begun = carried_trans y.carried z in
      let w = ends.typed louder F inner (y.letters ++ H) n (type_in n f.node found f.label) (own_node f.node) (surrounds_at f.node (surrounds_on begun.stays (surrounds_on x.carried.stays outer))) has in
      let one = λ (c : Context). match_field c n (is_there found) f labels now (field_type c n f.node found f.label) in
      let both = carried_trans begun w.carried in
      let sees = surrounds_sees (surrounds_on x.carried.stays outer) in
      let from_start = told_at f.node w.scoped.number both w.scoped.at sees in
      let row = carried_row {scope = scope} f.node from_start in
      let whole = carried_as (λ c. field_asked c n found f labels now) row in
      let same = sym (append_assoc ends.opens y.letters H) in
      let grouped = subst (λ J. Carried F scope one (sight b) H (sight d) J) same whole in
      let ready : AreDone (sight d) grouped.hidden ends.opens = done_grouped same whole (done_as (λ c. field_asked c n found f labels now) row (subst (λ zs. AreDone (sight d) zs ends.opens) (sym (row_hides scope f.node from_start)) (done_told f.node w.scoped.number both w.scoped.at sees (done_last begun w.carried w.done)))) in
      let among : IsAmong ends.opens (ends.opens ++ y.letters) = among_before y.letters (all_among ends.opens) in
      let sure = λ (all_known : F.known ≡ true) (placed : ArePlaced (sight d)). done_sure grouped.hidden grouped.settled placed (grouped.clear all_known placed)
      (subst (λ zs. AreDone (sight d) grouped.hidden (ends.opens ++ zs)) (sym (y.none all_known)) (done_both ready done_none)) in
      let step : Carried F scope one (sight b) H (sight d) (ends.opens ++ H) = carried_kept (ends.opens ++ y.letters) ends.opens among grouped sure in
      let step_done : AreDone (sight d) step.hidden ends.opens = done_on keeps_same (kept_hides (ends.opens ++ y.letters) ends.opens among grouped sure) ready in
      let here_now : AreNodes K b.store.nodes = nodes_in K a.store.nodes b.store.nodes x.carried.stays.longer nodes in
      let closed : Stays F (sight b) (first.opens ++ G) (sight d) (ends.opens ++ (first.opens ++ G)) = stays_without first.opens K ends.opens G here_now step.stays in
      let told_closed : Stays F (sight b) (first.opens ++ G) (sight told) (first.opens ++ G) = stays_without first.opens K [] G here_now (stays_closed y.letters begun.stays) in
      let before : Stays F (sight a) G (sight b) (first.opens ++ G) = stays_without [] K first.opens G nodes x.carried.stays in
      let added_names = all_bound_both (all_bound_on closed x.names) (w.names (first.opens ++ G) (surrounds_at f.node (surrounds_on told_closed (surrounds_on before s)))) in
      let joined = carried_trans x.carried step in
      record {
        done = λ c. x.done c ++ one c;
        bounds = x.bounds ++ names_in_field n f;
        carried = subst (λ J. Carried F scope (λ c. x.done c ++ one c) (sight a) (K ++ G) (sight d) J) (sym (append_assoc ends.opens first.opens (K ++ G))) joined;
        rows_done = done_grouped (sym (append_assoc ends.opens first.opens (K ++ G))) joined (done_both {xs = joined.hidden} (done_last x.carried step step_done) (done_then x.carried step x.rows_done));
        names = subst (λ J. AllBound F (sight d) J (x.bounds ++ names_in_field n f) (added ++ more)) (sym (append_assoc ends.opens first.opens G)) added_names;
        asks = λ c.
            x.asks c ∙ ap (λ fs. x.done c ++ match_fields c n found fs labels now) split ∙ sym (append_assoc (x.done c) (one c) (match_fields c n found rest (labels ++ name_in f.label) (now ++ mentions_in_field f))) ∙
            ap (λ ns. (x.done c ++ one c) ++ match_fields c n found rest (labels ++ name_in f.label) ns) (sym later);
        binds = x.binds ∙ ap (λ fs. x.bounds ++ names_of_fields n fs) split ∙ sym (append_assoc x.bounds (names_in_field n f) (names_of_fields n rest));
      };
}

-- all fields
pub fields_all : (a b : Parts) (env : List Entry) (here : RecordHere) (all left : List FieldPattern) (seen labels now : List Name) (added : List Bind) → left ≡ [] → MatchesFieldsFirst a b env here all left seen labels now added → MatchesFields a b env here all seen added
fields_all a b env here all left seen labels now added none first = record {
  opens = first.opens;
  typed = λ aloud F scope K G n found s nodes known.
      let x = first.typed aloud F scope K G n found s nodes known in
      record {
        carried = carried_as (λ c. sym (append-nil (x.done c)) ∙ ap (λ fs. x.done c ++ match_fields c n found fs labels now) (sym none) ∙ sym (x.asks c)) x.carried;
        done = done_as _ x.carried x.rows_done;
        names = subst (λ bs. AllBound F (sight b) (first.opens ++ G) bs added) (sym (append-nil x.bounds) ∙ ap (λ fs. x.bounds ++ names_of_fields n fs) (sym none) ∙ sym x.binds) x.names;
      };
}

-- with the names that are added: no field yet
pub in_order_none : (a : Parts) (env : List Entry) (here : RecordHere) (fs : List FieldPattern) (names : List Bind) (seen : List Name) → FieldsInOrderFirst a a env here fs fs names names seen [] seen
in_order_none a env here fs names seen = record { added = []; mentions = []; adds = adds_none names seen; mentioned = refl; typed = fields_none a env here fs seen }

-- one field more
pub in_order_more : (a b mid told d : Parts) (env : List Entry) (here : RecordHere) (all left rest : List FieldPattern) (f : FieldPattern) (names some more : List Bind) (seen labels now after : List Name) (ty : Option ℕ) →
    left ≡ f ∷ rest → Goes a b → Goes b mid → Goes mid told → FieldsInOrderFirst a b env here all left names some seen labels now → BeginsField here b mid labels f.label ty → AsksNothing mid told → FieldAdds told d env f some more now after ty →
    FieldsInOrderFirst a d env here all rest names more seen (labels ++ name_in f.label) after
in_order_more a b mid told d env here all left rest f names some more seen labels now after ty split goes goes' goes'' first begins noted one = record {
  added = first.added ++ one.added;
  mentions = first.mentions ++ mentions_in_field f;
  adds = adds_both first.adds one.adds;
  mentioned = first.mentioned ∙ ap (λ fs. first.mentions ++ mentions_of_fields fs) split ∙ sym (append_assoc first.mentions (mentions_in_field f) (mentions_of_fields rest));
  typed = fields_more a b mid told d env here all left rest f seen labels now after first.added one.added ty split one.adds.sees goes goes' goes'' first.typed begins noted one.typed;
}

-- all fields
pub in_order_all : (a b : Parts) (env : List Entry) (here : RecordHere) (all left : List FieldPattern) (names more : List Bind) (seen labels after : List Name) → left ≡ [] → FieldsInOrderFirst a b env here all left names more seen labels after → FieldsInOrder a b env here all names more seen after
in_order_all a b env here all left names more seen labels after none first = record {
  added = first.added;
  adds = subst (λ ns. Adds names more first.added seen after ns) (sym (append-nil first.mentions) ∙ ap (λ fs. first.mentions ++ mentions_of_fields fs) (sym none) ∙ sym first.mentioned) first.adds;
  typed = fields_all a b env here all left seen labels after first.added none first.typed;
}

-- declarations that are one as records give a field one type
pub type_same : (c : Context) (n k : ℕ) (d e : rules.Declaration) → SameRecord d e → (p : Written) → field_type c n k (Some d) p ≡ field_type c n k (Some e) p
type_same c n k d e s p =
    let owner = s.owner in
    let one = same_field s p in
    sym (field_is c n k (Some d) p) ∙ (λ i. chosen_in c (option_map (used_in_record n k (owner i)) (one i))) ∙ field_is c n k (Some e) p

-- and ask the same of fields
pub fields_same : (c : Context) (n : ℕ) (d e : rules.Declaration) → SameRecord d e → (fs : List FieldPattern) (labels seen : List Name) → match_fields c n (Some d) fs labels seen ≡ match_fields c n (Some e) fs labels seen
fields_same c n d e s [] labels seen = refl
fields_same c n d e s (f ∷ fs) labels seen =
    let t = type_same c n f.node d e s f.label in
    let later = fields_same c n d e s fs (labels ++ name_in f.label) (seen ++ mentions_in_field f) in
    (λ i. match_field c n true f labels seen (t i) ++ later i)
