-- { l = p }: the record type of the labels, the fields, and the record.
use Rattle.std.proofs.Common.{◌≡◌, ◌∙◌, ◌++◌, ℕ, List, [], ◌∷◌, Option, Some, None, refl, sym, ap, subst, append-nil, append_assoc}
use Rattle.tree_model.specs.Trees.{Place}
use Rattle.signature_model.specs.Declarations as rules
use Rattle.signature_model.specs.Declarations.{Name, type_of}
use Rattle.typing_model.specs.Demands.{Condition, same}
use Rattle.typing_model.specs.Contexts.{Context, type_at}
use Rattle.typing_model.specs.Names.{used_at}
use Rattle.typing_model.specs.Parts.{Written, FieldPattern}
use Rattle.typing_model.specs.Records.{ask_record}
use Rattle.typing_model.specs.Patterns.{match_fields, labels_of_fields, kept_record, precord}
use Rattle.env_table.specs.declared.entries.Declaration.{Declaration}
use Rattle.env_table.specs.declared.entries.Entry.{Entry}
use Rattle.typing_state.specs.declared.parts.Parts.{Parts}
use Rattle.typing_state.specs.Goes.{Goes}
use Rattle.typing_conditions.specs.Sights.{own, Letters}
use Rattle.typing_conditions.specs.Meanings.{Means}
use Rattle.typing_conditions.specs.Carrying.{Carried}
use Rattle.typing_conditions.specs.Hiding.{AreDone}
use Rattle.typing_conditions.proofs.Carried.{carried_trans, carried_as, done_as, done_then, done_last}
use Rattle.typing_conditions.proofs.Branching.{carried_after, after_hides}
use Rattle.typing_conditions.proofs.Meaning.{means_on}
use Rattle.typing_conditions.proofs.Nodes.{same_made}
use Rattle.typing_conditions.proofs.Recording.{ends_own}
use Rattle.typing_conditions.proofs.Stays.{stays_closed}
use Rattle.typing_conditions.proofs.Surrounding.{surrounds_on}
use Rattle.typing_conditions.proofs.Hiding.{owns_also, owns_after, owns_row, owns_node}
use Rattle.typing_conditions.proofs.Keeping.{all_among, among_after, among_before}
use Rattle.typing_steps.specs.States.{is_aloud, sight}
use Rattle.typing_steps.specs.Typing.{TypesAny}
use Rattle.record_steps.specs.Alike.{SameRecord}
use Rattle.record_steps.specs.Recording.{TypesRecord, TypesNoRecord}
use Rattle.pattern_rows.specs.Bounds.{Bind}
use Rattle.pattern_rows.specs.Contracts.{MatchesRow}
use Rattle.pattern_rows.proofs.Naming.{all_bound_on}
use Rattle.pattern_rows.proofs.Opened.{done_grouped}
use Rattle.record_rows.specs.Fields.{MatchesFields}
use Rattle.record_rows.proofs.Fields.{fields_same}

-- what a record asks behind the demand of its labels, by the declaration that is found
abbrev pub behind_record : Context → ℕ → List FieldPattern → List Name → Option rules.Declaration → List Condition
behind_record c n fs seen found = match_fields c n found fs [] seen ++ elim found [ None ↦ [] | Some d ↦ same (type_at c n) (used_at c n (type_of d)) ∷ [] ]

-- it is the same for declarations that are one as records
behind_same : (c : Context) (n : ℕ) (fs : List FieldPattern) (seen : List Name) (d e : rules.Declaration) → SameRecord d e → behind_record c n fs seen (Some d) ≡ behind_record c n fs seen (Some e)
behind_same c n fs seen d e s = let p = fields_same c n d e s fs [] seen in let q = s.owner in (λ i. p i ++ same (type_at c n) (used_at c n (q i)) ∷ [])

-- labels that ask the same, and find the same, as others
pub record AskAlike (ps qs : List Written) : Type 0 where
  pub asks : (c : Context) (n k : ℕ) → ask_record c n k ps ≡ ask_record c n k qs
  pub kept : (c : Context) (n k : ℕ) → kept_record c n k ps ≡ kept_record c n k qs

-- the whole of what a record asks
whole_asks : (c : Context) (n : ℕ) (at : Place) (fs : List FieldPattern) (seen : List Name) (ps : List Written) → AskAlike ps (labels_of_fields fs) → ask_record c n 0 ps ++ behind_record c n fs seen (kept_record c n 0 ps) ≡ (precord n at fs).matched c seen
whole_asks c n at fs seen ps alike =
    (let p = alike.asks c n 0 in let q = alike.kept c n 0 in (λ i. p i ++ behind_record c n fs seen (q i))) ∙
    sym (append_assoc (ask_record c n 0 (labels_of_fields fs)) (match_fields c n (kept_record c n 0 (labels_of_fields fs)) fs [] seen) (elim (kept_record c n 0 (labels_of_fields fs)) [ None ↦ [] | Some d ↦ same (type_at c n) (used_at c n (type_of d)) ∷ [] ]))

-- a record whose type is known
pub known_row : (a b d : Parts) (env : List Entry) (n : ℕ) (at : Place) (fs : List FieldPattern) (ps : List Written) (seen : List Name) (added : List Bind) (decl : Declaration) (m : ℕ) → AskAlike ps (labels_of_fields fs) → TypesRecord a b env ps decl m → Goes a b →
    MatchesFields b d env (Some (decl, m)) fs seen added → MatchesRow a d env (precord n at fs) seen added n m
known_row a b d env n at fs ps seen added decl m alike typed goes fields = record {
  opens = fields.opens;
  typed = λ aloud F scope G its names.
      let asks = λ (c : Context). (precord n at fs).matched c seen in
      let k = typed aloud F scope G n 0 names in
      let x = fields.typed (ap is_aloud goes.telling ∙ aloud) F scope k.letters G n (Some k.owner) (surrounds_on (stays_closed k.letters k.carried.stays) names) k.inside (k.stands, k.has_type, k.use_of) in
      let y = means_on x.carried.stays k.has_type in
      let end = same_made {scope = scope} (own n) (λ t. tt) y in
      let z = carried_trans x.carried end in
      let behind = carried_after k.carried (λ V c loose under agrees named kept. let h = k.finds V c loose under agrees named kept in ap (behind_record c n fs seen) h.is ∙ behind_same c n fs seen h.declaration k.owner h.same) z in
      let letters : Letters = (own n, m) ∷ (fields.opens ++ k.letters) in
      let as_asked = λ (c : Context). whole_asks c n at fs seen ps alike in
      let here : Carried F scope asks (sight a) G (sight d) ((own n, m) ∷ (fields.opens ++ (k.letters ++ G))) = carried_as as_asked behind in
      let grouped : (own n, m) ∷ (fields.opens ++ (k.letters ++ G)) ≡ letters ++ G = ap (λ J. (own n, m) ∷ J) (sym (append_assoc fields.opens k.letters G)) in
      let whole : Carried F scope asks (sight a) G (sight d) (letters ++ G) = subst (λ J. Carried F scope asks (sight a) G (sight d) J) grouped here in
      let ready : AreDone (sight d) whole.hidden fields.opens =
      done_grouped grouped here (done_as as_asked behind (subst (λ zs. AreDone (sight d) zs fields.opens) (sym (after_hides k.carried _ z)) (done_last k.carried z (done_then x.carried end x.done)))) in
      let of_row : Means F (sight d) (letters ++ G) (λ ch. ch.type_at n) m = record { open_node = y.open_node; is = λ V ch loose g. g.given.0.is } in
      record {
        row = record {
          own = letters;
          type = λ ch. ch.type_at n;
          first = asks;
          ends = λ c. [];
          all = λ c. append-nil (asks c);
          typed = record { carried = whole; means = of_row };
          owns = λ known. owns_also (own n) refl refl (owns_after ready (owns_row k.of_row));
          end = ends_own n;
        };
        among = among_after ((own n, m) ∷ []) (among_before k.letters (all_among fields.opens));
        done = ready;
        names = λ o st h always. all_bound_on st x.names;
      };
}

-- a record whose type isn't known has one of its own
pub unknown_row : (a b v d : Parts) (env : List Entry) (n : ℕ) (at : Place) (fs : List FieldPattern) (ps : List Written) (seen : List Name) (added : List Bind) (m : ℕ) → AskAlike ps (labels_of_fields fs) → TypesNoRecord a b env ps → Goes a b → TypesAny b v m → Goes b v →
    MatchesFields v d env None fs seen added → MatchesRow a d env (precord n at fs) seen added n m
unknown_row a b v d env n at fs ps seen added m alike typed goes any goes' fields = record {
  opens = fields.opens;
  typed = λ aloud F scope G its names.
      let asks = λ (c : Context). (precord n at fs).matched c seen in
      let k = typed aloud F scope G n 0 names in
      let names_b = surrounds_on k.carried.stays names in
      let w = any F scope G (own n) (λ t. tt) names_b.reached in
      let own_letter : Letters = (own n, m) ∷ [] in
      let x = fields.typed (ap is_aloud goes'.telling ∙ ap is_aloud goes.telling ∙ aloud) F scope own_letter G n None (surrounds_on (stays_closed own_letter w.carried.stays) names_b) (w.means.open_node.inside, tt) tt in
      let z = carried_trans w.carried x.carried in
      let behind = carried_after k.carried (λ V c loose under agrees named kept. ap (behind_record c n fs seen) (k.none V c loose under agrees named kept) ∙ append-nil (match_fields c n None fs [] seen)) z in
      let letters : Letters = fields.opens ++ own_letter in
      let as_asked = λ (c : Context). whole_asks c n at fs seen ps alike in
      let here : Carried F scope asks (sight a) G (sight d) (fields.opens ++ (own_letter ++ G)) = carried_as as_asked behind in
      let grouped = sym (append_assoc fields.opens own_letter G) in
      let whole : Carried F scope asks (sight a) G (sight d) (letters ++ G) = subst (λ J. Carried F scope asks (sight a) G (sight d) J) grouped here in
      let ready : AreDone (sight d) whole.hidden fields.opens =
      done_grouped grouped here (done_as as_asked behind (subst (λ zs. AreDone (sight d) zs fields.opens) (sym (after_hides k.carried _ z)) (done_last k.carried z (done_last w.carried x.carried x.done)))) in
      let of_row : Means F (sight d) (letters ++ G) (λ ch. ch.type_at n) m = subst (λ J. Means F (sight d) J (λ ch. ch.type_at n) m) (sym (append_assoc fields.opens own_letter G)) (means_on x.carried.stays w.means) in
      record {
        row = record {
          own = letters;
          type = λ ch. ch.type_at n;
          first = asks;
          ends = λ c. [];
          all = λ c. append-nil (asks c);
          typed = record { carried = whole; means = of_row };
          owns = λ known. owns_after ready (owns_node (own n) refl refl);
          end = ends_own n;
        };
        among = among_before own_letter (all_among fields.opens);
        done = ready;
        names = λ o st h always. all_bound_on st x.names;
      };
}
