-- { l = e }, { e with l = e }: the record type of the labels, the fields, that none is absent, and the record.
use Rattle.std.proofs.Common.{◌≡◌, ◌∙◌, ◌++◌, ℕ, true, List, [], ◌∷◌, Option, Some, None, refl, sym, ap, subst, append-nil, append_assoc}
use Rattle.tree_model.specs.Trees.{Place}
use Rattle.signature_model.specs.Declarations as rules
use Rattle.signature_model.specs.Declarations.{type_of}
use Rattle.typing_model.specs.Demands.{site, same, Condition}
use Rattle.typing_model.specs.Contexts.{Context, type_at}
use Rattle.typing_model.specs.Names.{used_at}
use Rattle.typing_model.specs.Parts.{Written, Expression, Field}
use Rattle.typing_model.specs.Records.{ask_record, ask_complete}
use Rattle.typing_model.specs.Patterns.{kept_record}
use Rattle.typing_model.specs.Expressions.{fields_ask, labels_of, names_of_labels, is_record, record_asks, update_asks, has_type}
use Rattle.env_table.specs.declared.entries.Declaration.{Declaration}
use Rattle.env_table.specs.declared.entries.Entry.{Entry}
use Rattle.typing_state.specs.declared.parts.Parts.{Parts}
use Rattle.typing_state.specs.Goes.{Goes}
use Rattle.typing_conditions.specs.Sights.{own, Letters}
use Rattle.typing_conditions.specs.Meanings.{Means}
use Rattle.typing_conditions.specs.Carrying.{Asks, Carried}
use Rattle.typing_conditions.specs.Hiding.{AreDone}
use Rattle.typing_conditions.proofs.Carried.{carried_trans, carried_as, done_as, done_then, done_last, owns_last}
use Rattle.typing_conditions.proofs.Branching.{carried_after, after_hides}
use Rattle.typing_conditions.proofs.Meaning.{means_on}
use Rattle.typing_conditions.proofs.Nodes.{same_made}
use Rattle.typing_conditions.proofs.Recording.{ends_own}
use Rattle.typing_conditions.proofs.Surrounding.{surrounds_on, sees_on, surrounds_sees}
use Rattle.typing_conditions.proofs.Hiding.{owns_also, owns_after, owns_row, owns_done}
use Rattle.typing_steps.specs.States.{is_aloud, sight}
use Rattle.typing_steps.specs.Typing.{TypesTo, TypesAny, TypesRow, AsksEqual}
use Rattle.typing_steps.specs.Building.{used_by}
use Rattle.record_steps.specs.Alike.{SameRecord}
use Rattle.record_steps.specs.Recording.{TypesRecord, TypesNoRecord, AsksNothing}
use Rattle.pattern_rows.proofs.Opened.{done_grouped}
use Rattle.record_rows.specs.Values.{TypesFields, Carries}
use Rattle.record_rows.specs.Completing.{Completes}
use Rattle.record_rows.proofs.Completing.{complete_same}
use Rattle.record_rows.proofs.Fields.{known_on}
use Rattle.record_rows.proofs.Rows.{AskAlike}
use Rattle.record_rows.proofs.Values.{values_same}

-- what a record that is made asks after the demand of its labels, by the declaration that is found
abbrev pub behind_made : Context → ℕ → Place → List Condition → List Field → Option rules.Declaration → List Condition
behind_made c n at loose fs found = loose ++ fields_ask c n found fs [] ++ ask_complete n 3 at found (names_of_labels fs) ++ is_record c n found

-- it is the same for declarations that are one as records
made_same : (c : Context) (n : ℕ) (at : Place) (loose : List Condition) (fs : List Field) (d e : rules.Declaration) → SameRecord d e → behind_made c n at loose fs (Some d) ≡ behind_made c n at loose fs (Some e)
made_same c n at loose fs d e s =
    let p = values_same c n d e s fs [] in
    let q = complete_same n 3 at d e (names_of_labels fs) s in
    let r = s.owner in
    (λ i. loose ++ p i ++ q i ++ same (type_at c n) (used_at c n (r i)) ∷ [])

-- six lists, grouped by the second
six : (u v w x y z : List Condition) → u ++ (v ++ (w ++ x ++ y ++ z)) ≡ u ++ v ++ w ++ x ++ y ++ z
six u v w x y z =
    sym (append_assoc u v (w ++ x ++ y ++ z)) ∙ sym (append_assoc (u ++ v) (w ++ x ++ y) z) ∙
    ap (λ l. l ++ z) (sym (append_assoc (u ++ v) (w ++ x) y) ∙ ap (λ l. l ++ y) (sym (append_assoc (u ++ v) w x)))

-- the whole of what it asks
made_asks : (c : Context) (n : ℕ) (at : Place) (before loose : List Condition) (fs : List Field) (ps : List Written) → AskAlike ps (labels_of fs) →
    before ++ (ask_record c n 1 ps ++ behind_made c n at loose fs (kept_record c n 1 ps)) ≡ record_asks c n at before loose fs
made_asks c n at before loose fs ps alike =
    (let p = alike.asks c n 1 in let q = alike.kept c n 1 in (λ i. before ++ (p i ++ behind_made c n at loose fs (q i)))) ∙
    (let found = kept_record c n 1 (labels_of fs) in six before (ask_record c n 1 (labels_of fs)) loose (fields_ask c n found fs []) (ask_complete n 3 at found (names_of_labels fs)) (is_record c n found))

-- A record that is made, whose type is known: `before` is asked before its labels are looked for, and `loose` after it.
pub known_made_row : (a b e f d g : Parts) (env : List Entry) (n : ℕ) (at : Place) (fs : List Field) (ps : List Written) (before loose : Asks) (decl : Declaration) (m : ℕ) → AskAlike ps (labels_of fs) → Carries a b env before → Goes a b → TypesRecord b e env ps decl m → Goes b e →
    Carries e f env loose → Goes e f → TypesFields f d env (Some (decl, m)) [] fs → Goes f d → Completes d g (Some (decl, m)) (names_of_labels fs) at → TypesRow a g env (λ c. record_asks c n at (before c) (loose c) fs) n m
known_made_row a b e f d g env n at fs ps before loose decl m alike first goes typed goes_b more goes_e fields goes_f complete = λ aloud F scope G its names.
    let asks = λ (c : Context). record_asks c n at (before c) (loose c) fs in
    let aloud_b : is_aloud b.telling ≡ true = ap is_aloud goes.telling ∙ aloud in
    let aloud_e : is_aloud e.telling ≡ true = ap is_aloud goes_b.telling ∙ aloud_b in
    let aloud_f : is_aloud f.telling ≡ true = ap is_aloud goes_e.telling ∙ aloud_e in
    let aloud_d : is_aloud d.telling ≡ true = ap is_aloud goes_f.telling ∙ aloud_f in
    let o = first aloud F scope G names in
    let names_b = surrounds_on o.stays names in
    let k = typed aloud_b F scope G n 1 names_b in
    let names_e = surrounds_on k.carried.stays names_b in
    let l = more aloud_e F scope (k.letters ++ G) names_e in
    let known_f = known_on n (Some (decl, m)) (Some k.owner) l.stays (k.stands, k.has_type, k.use_of) in
    let x = fields aloud_f F scope (k.letters ++ G) n (Some k.owner) (surrounds_on l.stays names_e) known_f in
    let known_d = known_on n (Some (decl, m)) (Some k.owner) x.carried.stays known_f in
    let y = complete aloud_d F scope (x.letters ++ (k.letters ++ G)) n (Some k.owner) known_d in
    let there : Means F (sight g) (x.letters ++ (k.letters ++ G)) (used_by n (type_of k.owner)) m = means_on y.stays known_d.1 in
    let end = same_made {scope = scope} (own n) (λ t. tt) there in
    let some = carried_trans l x.carried in
    let more_of_it = carried_trans some y in
    let z = carried_trans more_of_it end in
    let behind = carried_after k.carried (λ V c loosely under agrees named kept. let h = k.finds V c loosely under agrees named kept in ap (behind_made c n at (loose c) fs) h.is ∙ made_same c n at (loose c) fs h.declaration k.owner h.same) z in
    let letters : Letters = (own n, m) ∷ (x.letters ++ k.letters) in
    let here : Carried F scope asks (sight a) G (sight g) ((own n, m) ∷ (x.letters ++ (k.letters ++ G))) = carried_as (λ c. made_asks c n at (before c) (loose c) fs ps alike) (carried_trans o behind) in
    let grouped : (own n, m) ∷ (x.letters ++ (k.letters ++ G)) ≡ letters ++ G = ap (λ J. (own n, m) ∷ J) (sym (append_assoc x.letters k.letters G)) in
    let whole : Carried F scope asks (sight a) G (sight g) (letters ++ G) =
    subst (λ J. Carried F scope asks (sight a) G (sight g) J) grouped here in
    let ready = λ (all_known : F.known ≡ true). done_grouped grouped here (done_as (λ c. made_asks c n at (before c) (loose c) fs ps alike) (carried_trans o behind) (done_last o behind
    (subst (λ zs. AreDone (sight g) zs x.letters) (sym (after_hides k.carried _ z)) (done_last k.carried z (done_then more_of_it end (done_then some y (done_last l x.carried (x.done all_known)))))))) in
    let of_row : Means F (sight g) (letters ++ G) (λ ch. ch.type_at n) m = record { open_node = there.open_node; is = λ V ch loosely h. h.given.0.is } in
    record {
      own = letters;
      type = λ ch. ch.type_at n;
      first = asks;
      ends = λ c. [];
      all = λ c. append-nil (asks c);
      typed = record { carried = whole; means = of_row };
      owns = λ all_known. owns_also (own n) refl refl (owns_after (ready all_known) (owns_row k.of_row));
      end = ends_own n;
    }

-- One whose type isn't known has a type of its own.
pub unknown_made_row : (a b e f d g v : Parts) (env : List Entry) (n : ℕ) (at : Place) (fs : List Field) (ps : List Written) (before loose : Asks) (m : ℕ) → AskAlike ps (labels_of fs) → Carries a b env before → Goes a b → TypesNoRecord b e env ps → Goes b e →
    Carries e f env loose → Goes e f → TypesFields f d env None [] fs → Goes f d → Completes d g None (names_of_labels fs) at → TypesAny g v m → TypesRow a v env (λ c. record_asks c n at (before c) (loose c) fs) n m
unknown_made_row a b e f d g v env n at fs ps before loose m alike first goes typed goes_b more goes_e fields goes_f complete any = λ aloud F scope G its names.
    let asks = λ (c : Context). record_asks c n at (before c) (loose c) fs in
    let aloud_b : is_aloud b.telling ≡ true = ap is_aloud goes.telling ∙ aloud in
    let aloud_e : is_aloud e.telling ≡ true = ap is_aloud goes_b.telling ∙ aloud_b in
    let aloud_f : is_aloud f.telling ≡ true = ap is_aloud goes_e.telling ∙ aloud_e in
    let aloud_d : is_aloud d.telling ≡ true = ap is_aloud goes_f.telling ∙ aloud_f in
    let o = first aloud F scope G names in
    let names_b = surrounds_on o.stays names in
    let k = typed aloud_b F scope G n 1 names_b in
    let names_e = surrounds_on k.carried.stays names_b in
    let l = more aloud_e F scope G names_e in
    let names_f = surrounds_on l.stays names_e in
    let x = fields aloud_f F scope G n None names_f tt in
    let y = complete aloud_d F scope (x.letters ++ G) n None tt in
    let w = any F scope (x.letters ++ G) (own n) (λ t. tt) (surrounds_on y.stays (surrounds_on x.carried.stays names_f)).reached in
    let some = carried_trans l x.carried in
    let more_of_it = carried_trans some y in
    let z = carried_trans more_of_it w.carried in
    let behind = carried_after k.carried (λ V c loosely under agrees named kept. ap (behind_made c n at (loose c) fs) (k.none V c loosely under agrees named kept)) z in
    let letters : Letters = (own n, m) ∷ x.letters in
    let whole : Carried F scope asks (sight a) G (sight v) (letters ++ G) = carried_as (λ c. made_asks c n at (before c) (loose c) fs ps alike) (carried_trans o behind) in
    let ready = λ (all_known : F.known ≡ true). done_as (λ c. made_asks c n at (before c) (loose c) fs ps alike) (carried_trans o behind) (done_last o behind
    (subst (λ zs. AreDone (sight v) zs x.letters) (sym (after_hides k.carried _ z)) (done_last k.carried z (done_then more_of_it w.carried (done_then some y (done_last l x.carried (x.done all_known))))))) in
    record {
      own = letters;
      type = λ ch. ch.type_at n;
      first = asks;
      ends = λ c. [];
      all = λ c. append-nil (asks c);
      typed = record { carried = whole; means = w.means };
      owns = λ all_known. owns_also (own n) refl refl (owns_done (ready all_known));
      end = ends_own n;
    }

-- what a record that is updated asks after the demand of its labels, by the declaration that is found
abbrev pub behind_updated : Context → ℕ → Expression → List Field → Option rules.Declaration → List Condition
behind_updated c n e fs found = elim found [ None ↦ [] | Some d ↦ has_type c n 2 e (used_at c n (type_of d)) ] ++ fields_ask c n found fs [] ++ is_record c n found

-- it is the same for declarations that are one as records
updated_same : (c : Context) (n : ℕ) (x : Expression) (fs : List Field) (d e : rules.Declaration) → SameRecord d e → behind_updated c n x fs (Some d) ≡ behind_updated c n x fs (Some e)
updated_same c n x fs d e s = let p = values_same c n d e s fs [] in let r = s.owner in (λ i. has_type c n 2 x (used_at c n (r i)) ++ p i ++ same (type_at c n) (used_at c n (r i)) ∷ [])

-- five lists, grouped by the second
five : (u v w x y : List Condition) → u ++ (v ++ (w ++ x ++ y)) ≡ u ++ v ++ w ++ x ++ y
five u v w x y = sym (append_assoc u v (w ++ x ++ y)) ∙ sym (append_assoc (u ++ v) (w ++ x) y) ∙ ap (λ l. l ++ y) (sym (append_assoc (u ++ v) w x))

-- the whole of what it asks
updated_asks : (c : Context) (n : ℕ) (e : Expression) (fs : List Field) (ps : List Written) → AskAlike ps (labels_of fs) → e.typed c ++ (ask_record c n 1 ps ++ behind_updated c n e fs (kept_record c n 1 ps)) ≡ update_asks c n e fs
updated_asks c n e fs ps alike =
    (let p = alike.asks c n 1 in let q = alike.kept c n 1 in (λ i. e.typed c ++ (p i ++ behind_updated c n e fs (q i)))) ∙
    (let found = kept_record c n 1 (labels_of fs) in five (e.typed c) (ask_record c n 1 (labels_of fs)) (elim found [ None ↦ [] | Some d ↦ has_type c n 2 e (used_at c n (type_of d)) ]) (fields_ask c n found fs []) (is_record c n found))

-- A record that is updated, whose type is known.
pub known_updated_row : (a b e f d : Parts) (env : List Entry) (n : ℕ) (whose : Expression) (w : ℕ) (fs : List Field) (ps : List Written) (decl : Declaration) (m : ℕ) → AskAlike ps (labels_of fs) → TypesTo a b env whose.typed (λ ch. ch.type_at whose.node) w → Goes a b →
    TypesRecord b e env ps decl m → Goes b e → AsksEqual e f env whose.at w m → Goes e f → TypesFields f d env (Some (decl, m)) [] fs → TypesRow a d env (λ c. update_asks c n whose fs) n m
known_updated_row a b e f d env n whose w fs ps decl m alike first goes typed goes_b asked goes_e fields = λ aloud F scope G its names.
    let asks = λ (c : Context). update_asks c n whose fs in
    let aloud_b : is_aloud b.telling ≡ true = ap is_aloud goes.telling ∙ aloud in
    let aloud_e : is_aloud e.telling ≡ true = ap is_aloud goes_b.telling ∙ aloud_b in
    let o = first aloud F scope G names in
    let names_b = surrounds_on o.carried.stays names in
    let k = typed aloud_b F scope G n 1 names_b in
    let names_e = surrounds_on k.carried.stays names_b in
    let l = asked aloud_e F scope (k.letters ++ G) (site n 2) (λ ch. ch.type_at whose.node) (used_by n (type_of k.owner)) its (sees_on scope k.carried.stays names_b.reached (surrounds_sees names_b)) (means_on k.carried.stays o.means) k.has_type in
    let known_f = known_on n (Some (decl, m)) (Some k.owner) l.stays (k.stands, k.has_type, k.use_of) in
    let x = fields (ap is_aloud goes_e.telling ∙ aloud_e) F scope (k.letters ++ G) n (Some k.owner) (surrounds_on l.stays names_e) known_f in
    let there : Means F (sight d) (x.letters ++ (k.letters ++ G)) (used_by n (type_of k.owner)) m = means_on x.carried.stays known_f.1 in
    let end = same_made {scope = scope} (own n) (λ t. tt) there in
    let some = carried_trans l x.carried in
    let z = carried_trans some end in
    let behind = carried_after k.carried (λ V c loosely under agrees named kept. let h = k.finds V c loosely under agrees named kept in ap (behind_updated c n whose fs) h.is ∙ updated_same c n whose fs h.declaration k.owner h.same) z in
    let letters : Letters = (own n, m) ∷ (x.letters ++ k.letters) in
    let here : Carried F scope asks (sight a) G (sight d) ((own n, m) ∷ (x.letters ++ (k.letters ++ G))) = carried_as (λ c. updated_asks c n whose fs ps alike) (carried_trans o.carried behind) in
    let grouped : (own n, m) ∷ (x.letters ++ (k.letters ++ G)) ≡ letters ++ G = ap (λ J. (own n, m) ∷ J) (sym (append_assoc x.letters k.letters G)) in
    let whole : Carried F scope asks (sight a) G (sight d) (letters ++ G) = subst (λ J. Carried F scope asks (sight a) G (sight d) J) grouped here in
    let ready = λ (all_known : F.known ≡ true). done_grouped grouped here (done_as (λ c. updated_asks c n whose fs ps alike) (carried_trans o.carried behind) (done_last o.carried behind
    (subst (λ zs. AreDone (sight d) zs x.letters) (sym (after_hides k.carried _ z)) (done_last k.carried z (done_then some end (done_last l x.carried (x.done all_known))))))) in
    let of_row : Means F (sight d) (letters ++ G) (λ ch. ch.type_at n) m = record { open_node = there.open_node; is = λ V ch loosely h. h.given.0.is } in
    record {
      own = letters;
      type = λ ch. ch.type_at n;
      first = asks;
      ends = λ c. [];
      all = λ c. append-nil (asks c);
      typed = record { carried = whole; means = of_row };
      owns = λ all_known. owns_also (own n) refl refl (owns_after (ready all_known) (owns_row k.of_row));
      end = ends_own n;
    }

-- One whose type isn't known has a type of its own.
pub unknown_updated_row : (a b e d v : Parts) (env : List Entry) (n : ℕ) (whose : Expression) (w : ℕ) (fs : List Field) (ps : List Written) (m : ℕ) → AskAlike ps (labels_of fs) → TypesTo a b env whose.typed (λ ch. ch.type_at whose.node) w → Goes a b →
    TypesNoRecord b e env ps → Goes b e → TypesFields e d env None [] fs → TypesAny d v m → TypesRow a v env (λ c. update_asks c n whose fs) n m
unknown_updated_row a b e d v env n whose w fs ps m alike first goes typed goes_b fields any = λ aloud F scope G its names.
    let asks = λ (c : Context). update_asks c n whose fs in
    let aloud_b : is_aloud b.telling ≡ true = ap is_aloud goes.telling ∙ aloud in
    let o = first aloud F scope G names in
    let names_b = surrounds_on o.carried.stays names in
    let k = typed aloud_b F scope G n 1 names_b in
    let names_e = surrounds_on k.carried.stays names_b in
    let x = fields (ap is_aloud goes_b.telling ∙ aloud_b) F scope G n None names_e tt in
    let y = any F scope (x.letters ++ G) (own n) (λ t. tt) (surrounds_on x.carried.stays names_e).reached in
    let behind = carried_after k.carried (λ V c loosely under agrees named kept. ap (behind_updated c n whose fs) (k.none V c loosely under agrees named kept)) (carried_trans x.carried y.carried) in
    let letters : Letters = (own n, m) ∷ x.letters in
    let whole : Carried F scope asks (sight a) G (sight v) (letters ++ G) = carried_as (λ c. updated_asks c n whose fs ps alike) (carried_trans o.carried behind) in
    let ready = λ (all_known : F.known ≡ true). done_as (λ c. updated_asks c n whose fs ps alike) (carried_trans o.carried behind) (done_last o.carried behind
    (subst (λ zs. AreDone (sight v) zs x.letters) (sym (after_hides k.carried _ (carried_trans x.carried y.carried))) (done_last k.carried (carried_trans x.carried y.carried) (done_then x.carried y.carried (x.done all_known))))) in
    record {
      own = letters;
      type = λ ch. ch.type_at n;
      first = asks;
      ends = λ c. [];
      all = λ c. append-nil (asks c);
      typed = record { carried = whole; means = y.means };
      owns = λ all_known. owns_also (own n) refl refl (owns_done (ready all_known));
      end = ends_own n;
    }

-- a row after a call that asks nothing
pub row_behind : (a b d : Parts) (env : List Entry) (asks : Asks) (n m : ℕ) → AsksNothing a b → Goes a b → TypesRow b d env asks n m → TypesRow a d env asks n m
row_behind a b d env asks n m nothing goes row = λ aloud F scope G its names.
    let none = nothing F scope G in
    let x = row (ap is_aloud goes.telling ∙ aloud) F scope G its (surrounds_on none.stays names) in
    record { own = x.own; type = x.type; first = x.first; ends = x.ends; all = x.all; typed = record { carried = carried_trans none x.typed.carried; means = x.typed.means }; owns = λ all_known. owns_last none x.typed.carried (x.owns all_known); end = x.end }
