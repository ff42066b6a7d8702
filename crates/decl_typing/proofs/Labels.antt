-- The labels of a declaration: their types, in order, and then that their names are new.
use Rattle.std.proofs.Common.{◌≡◌, ◌∙◌, ◌++◌, ◌+◌, ◌<◌, ℕ, zero, suc, Bool, true, not, List, [], ◌∷◌, length, map, drop, Option, Some, None, option_map, refl, sym, ap, subst, append_assoc, append-nil, arith, if◌then◌else◌}
use Rattle.std.specs.Prelude.{All, slice_index_or}
use Rattle.std.specs.Str.{bytes_eq}
use Rattle.std.proofs.lemmas.List.{drop_more}
use Rattle.std.proofs.lemmas.List.Elements.{All-head, All-tail}
use Rattle.token_model.specs.Kinds.{Tok}
use Rattle.text_terms.specs.Bytes.{str_bytes}
use Rattle.syntax_tree.specs.View.{place_of, tok_of}
use Rattle.syntax_tree.specs.declared.tree.Token.{Token}
use denote.Ref.{Bor}
use Rattle.row_parts.specs.Numbered.{operand_view}
use Rattle.type_model.specs.Types.{Typ}
use Rattle.signature_model.specs.Declarations.{Name}
use Rattle.typing_model.specs.Demands.{site, twice, test}
use Rattle.typing_model.specs.Contexts.{Context, tell, ask}
use Rattle.typing_model.specs.Parts as parts
use Rattle.typing_model.specs.Parts.{LabelPart}
use Rattle.typing_model.specs.Records.{is_among}
use Rattle.typing_model.specs.Declarations.{labels_read, labels_new}
use Rattle.env_table.specs.declared.entries.Entry.{Entry}
use Rattle.typing_state.specs.declared.parts.Parts.{Parts}
use Rattle.typing_state.specs.Goes.{Goes}
use Rattle.typing_conditions.proofs.Equals.{judged_as}
use Rattle.typing_conditions.specs.Sights.{Sight}
use Rattle.typing_steps.specs.States.{is_aloud, sight}
use Rattle.typing_rows.specs.Settled.{Before, behind, Around, SettledTo}
use Rattle.typing_rows.specs.DeclaredContracts.{SettlesTo}
use Rattle.typing_rows.specs.DeclaredOperands.{SettlesOperand}
use Rattle.typing_rows.proofs.Settling.{settled_none, settled_trans, settled_here, settled_told, fixed_left, fixed_right}
use Rattle.typing_rows.proofs.Judging.{Judges}
use Rattle.decl_groups.specs.declared.groups.LabelPart.{LabelPart as CodePart}
use Rattle.decl_typing.specs.Fresh.{AsksNew}
use Rattle.decl_typing.specs.Labels.{label_as, labels_as, HasBody, body_at, FirstLabels, FirstLabelNames, LabelNamesSettled, LabelsSettled}
use Rattle.decl_typing.proofs.Constructors.{new_judges, among_more}

-- the first labels and one more are read
pub read_more : (c : Context) (ks : List LabelPart) (k : LabelPart) → labels_read c ks ++ (tell k.node c ++ k.body.read c) ≡ labels_read c (ks ++ k ∷ [])
read_more c [] k = ap (λ cs. tell k.node c ++ cs) (sym (append-nil (k.body.read c)))
read_more c (j ∷ ks) k =
    append_assoc (tell j.node c ++ j.body.read c) (labels_read c ks) (tell k.node c ++ k.body.read c) ∙ ap (λ cs. tell j.node c ++ j.body.read c ++ cs) (read_more c ks k)

pub types_more : (f : LabelPart → Typ) (ks : List LabelPart) (k : LabelPart) → map f (ks ++ k ∷ []) ≡ map f ks ++ f k ∷ []
types_more f [] k = refl
types_more f (j ∷ ks) k = ap (λ ts. f j ∷ ts) (types_more f ks k)

-- no label yet
abbrev pub none_read : {B : Before} {a : Sight} (all : List LabelPart) → FirstLabels B all all a a
none_read {a = a} all = record { done = []; judged = []; told = []; fixes = []; types = []; reports = sym (append-nil a.reports); settled = settled_none; gives = λ ch h. refl; split = refl }

-- one label more
abbrev pub one_read : {B : Before} {a b d : Sight} {all left : List LabelPart} (k : LabelPart) (x : FirstLabels B all (k ∷ left) a b) → SettledTo (behind B x.judged x.fixes) (λ c. tell k.node c ++ k.body.read c) b d k.body.node → FirstLabels B all left a d
one_read {a = a} {left = left} k x y = record {
  done = x.done ++ k ∷ [];
  judged = x.judged ++ y.judged;
  told = x.told ++ y.told;
  fixes = x.fixes ++ y.fixes;
  types = x.types ++ y.type ∷ [];
  reports = y.reports ∙ ap (λ rs. rs ++ y.told) x.reports ∙ append_assoc a.reports x.told y.told;
  settled = settled_here (λ c h. read_more c x.done k) (settled_trans x.settled y.settled);
  gives = λ ch h.
      let before = x.gives ch (fixed_left ch x.fixes y.fixes h) in
      let now = y.gives ch (fixed_right ch x.fixes y.fixes h) in
      types_more (body_at ch) x.done k ∙ (λ i. before i ++ now i ∷ []);
  split = x.split ∙ sym (append_assoc x.done (k ∷ []) left);
}

-- no name yet
pub no_names : {B : Before} {a : Sight} (all : List LabelPart) → FirstLabelNames B all all [] a a
no_names {a = a} all = record { done = []; judged = []; told = []; reports = sym (append-nil a.reports); settled = settled_none; split = refl }

-- a label whose name is missing
pub no_name : {B : Before} {a b : Sight} {all left : List LabelPart} {seen : List Name} (k : LabelPart) → k.name ≡ None → FirstLabelNames B all (k ∷ left) seen a b → FirstLabelNames B all left seen a b
no_name {left = left} {seen = seen} k none x = record {
  done = x.done;
  judged = x.judged;
  told = x.told;
  reports = x.reports;
  settled = x.settled;
  split = x.split ∙ ap (λ (o : Option Tok). x.done ++ elim o [ None ↦ labels_new seen left | Some t ↦ ask k.node 0 (parts.place_of t) (test (twice t.name) (not (is_among t.name seen))) ++ labels_new (seen ++ t.name ∷ []) left ]) none;
}

-- one name more
pub one_name : {B : Before} {a b d : Sight} {all left : List LabelPart} {seen : List Name} (k : LabelPart) (t : Tok) → k.name ≡ Some t → (x : FirstLabelNames B all (k ∷ left) seen a b) →
    Judges (behind B x.judged []) (λ c. ask k.node 0 (parts.place_of t) (test (twice t.name) (not (is_among t.name seen)))) b d (site k.node 0) (not (is_among t.name seen)) → FirstLabelNames B all left (seen ++ t.name ∷ []) a d
one_name {a = a} {left = left} {seen = seen} k t there x y = record {
  done = x.done ++ ask k.node 0 (parts.place_of t) (test (twice t.name) (not (is_among t.name seen)));
  judged = x.judged ++ judged_as (site k.node 0) (not (is_among t.name seen));
  told = x.told ++ y.told;
  reports = y.reports ∙ ap (λ rs. rs ++ y.told) x.reports ∙ append_assoc a.reports x.told y.told;
  settled = settled_trans x.settled y.settled;
  split =
      x.split ∙ ap (λ (o : Option Tok). x.done ++ elim o [ None ↦ labels_new seen left | Some t ↦ ask k.node 0 (parts.place_of t) (test (twice t.name) (not (is_among t.name seen))) ++ labels_new (seen ++ t.name ∷ []) left ]) there ∙
      sym (append_assoc x.done (ask k.node 0 (parts.place_of t) (test (twice t.name) (not (is_among t.name seen)))) (labels_new (seen ++ t.name ∷ []) left));
}

-- all names
pub all_names : {B : Before} {a b : Sight} {all : List LabelPart} (seen : List Name) → FirstLabelNames B all [] seen a b → LabelNamesSettled B all a b
all_names seen x = record { judged = x.judged; told = x.told; reports = x.reports; settled = settled_here (λ c h. sym (x.split ∙ append-nil x.done)) x.settled }

-- all labels, and then their names
abbrev pub all_labels : {B : Before} {a b d : Sight} {all : List LabelPart} (x : FirstLabels B all [] a b) → LabelNamesSettled (behind B x.judged x.fixes) all b d → LabelsSettled B all a d
all_labels {a = a} {all = all} x y =
    let whole : all ≡ x.done = x.split ∙ append-nil x.done in
    record {
      judged = x.judged ++ y.judged;
      told = x.told ++ y.told;
      fixes = x.fixes ++ [];
      types = x.types;
      reports = y.reports ∙ ap (λ rs. rs ++ y.told) x.reports ∙ append_assoc a.reports x.told y.told;
      settled = settled_here (λ c h. ap (λ ks. labels_read c ks ++ labels_new [] all) (sym whole)) (settled_trans x.settled y.settled);
      gives = λ ch h. ap (map (body_at ch)) whole ∙ x.gives ch (fixed_left ch x.fixes [] h);
    }

-- a label whose type is read
pub part_settles : (a b d : Parts) (env : List Entry) (names : List Name) (p : CodePart) → (sight d).reports ≡ (sight b).reports → SettlesOperand a b env names (operand_view p.body) → HasBody p →
    SettlesTo a d env names (λ c. tell (label_as a.item p).node c ++ (label_as a.item p).body.read c) (label_as a.item p).body.node
part_settles a b d env names p kept read has = λ aloud B around.
    let x = read has aloud (behind B [] []) around in
    record { judged = x.judged; told = x.told; fixes = x.fixes; type = x.type; reports = kept ∙ x.reports; settled = settled_trans (settled_told (label_as a.item p).node) x.settled; gives = x.gives }

-- the part at a place
pub has_there : (ps : List CodePart) (i : ℕ) (x : CodePart) → i < length ps → x ≡ slice_index_or ps i x → All HasBody ps → HasBody x
has_there [] i x lt e all = absurd (omega arith)
has_there (p ∷ ps) zero x lt e all = subst HasBody (sym e) (All-head HasBody p ps all)
has_there (p ∷ ps) (suc i) x lt e all = has_there ps i x (omega arith) e (All-tail HasBody p ps all)

-- what is left begins with the part at a place
pub left_there : (i : ℕ) (ps : List CodePart) (k : ℕ) (x : CodePart) → k < length ps → x ≡ slice_index_or ps k x → labels_as i (drop k ps) ≡ label_as i x ∷ labels_as i (drop (k + 1) ps)
left_there i ps k x lt here = ap (labels_as i) (drop_more ps k x lt ∙ ap (λ y. y ∷ drop (k + 1) ps) (sym here))

-- what a loop over labels settles
abbrev pub SettlesFirstLabels : (a b : Parts) → List Entry → List Name → (ps : List CodePart) → ℕ → Type 0
SettlesFirstLabels a b env names ps k = All HasBody ps → is_aloud a.telling ≡ true → (B : Before) → Around env names B → FirstLabels B (labels_as a.item ps) (labels_as a.item (drop k ps)) (sight a) (sight b)

-- one label more in the loop
pub each_label : (a b d : Parts) (env : List Entry) (names : List Name) (ps : List CodePart) (k : ℕ) (x : CodePart) → k < length ps → x ≡ slice_index_or ps k x → SettlesFirstLabels a b env names ps k → Goes a b →
    (HasBody x → SettlesTo b d env names (λ c. tell (label_as b.item x).node c ++ (label_as b.item x).body.read c) (label_as b.item x).body.node) → SettlesFirstLabels a d env names ps (k + 1)
each_label a b d env names ps k x lt here first goes read = λ all aloud B around.
    let f = subst (λ left. FirstLabels B (labels_as a.item ps) left (sight a) (sight b)) (left_there a.item ps k x lt here) (first all aloud B around) in
    let one = subst (λ i. SettlesTo b d env names (λ c. tell (label_as i x).node c ++ (label_as i x).body.read c) (label_as i x).body.node) goes.item (read (has_there ps k x lt here all)) in
    one_read (label_as a.item x) f (one (ap is_aloud goes.telling ∙ aloud) (behind B f.judged f.fixes) around)

-- a loop over labels whose names are asked: the names so far, and what is judged
pub record SettlesFirstLabelNames (a b : Parts) (ps : List CodePart) (k : ℕ) (has : Name → Bool) : Type 0 where
  pub seen : List Name
  pub same : (q : Name) → has q ≡ is_among q seen
  pub first : is_aloud a.telling ≡ true → (B : Before) → FirstLabelNames B (labels_as a.item ps) (labels_as a.item (drop k ps)) seen (sight a) (sight b)

-- one name more in the loop
pub each_name : (a b d : Parts) (ps : List CodePart) (k : ℕ) (x : CodePart) (t : Bor Token) (has now : Name → Bool) → k < length ps → x ≡ slice_index_or ps k x → x.name ≡ Some t → SettlesFirstLabelNames a b ps k has → Goes a b → AsksNew (has (str_bytes t.now.name)) t.now b d →
    ((q : Name) → now q ≡ (if bytes_eq (str_bytes t.now.name) q then true else has q)) → SettlesFirstLabelNames a d ps (k + 1) now
each_name a b d ps k x t has now lt here there f goes asked adds = record {
  seen = f.seen ++ str_bytes t.now.name ∷ [];
  same = λ q. adds q ∙ ap (λ (u : Bool). if bytes_eq (str_bytes t.now.name) q then true else u) (f.same q) ∙ among_more q (str_bytes t.now.name) f.seen;
  first = λ aloud B.
      let y = subst (λ left. FirstLabelNames B (labels_as a.item ps) left f.seen (sight a) (sight b)) (left_there a.item ps k x lt here) (f.first aloud B) in
      let n = (label_as a.item x).node in
      let j = new_judges b d {B = behind B y.judged []} n 0 t.now (has (str_bytes t.now.name)) (ap is_aloud goes.telling ∙ aloud) asked in
      one_name (label_as a.item x) (tok_of t.now) (ap (option_map (λ (u : Bor Token). tok_of u.now)) there) y
      (subst (λ (v : Bool). Judges (behind B y.judged []) (λ c. ask n 0 (place_of t.now.span) (test (twice (str_bytes t.now.name)) (not v))) (sight b) (sight d) (site n 0) (not v)) (f.same (str_bytes t.now.name)) j);
}

-- a label without a name in the loop
pub each_nameless : (a b : Parts) (ps : List CodePart) (k : ℕ) (x : CodePart) (has : Name → Bool) → k < length ps → x ≡ slice_index_or ps k x → x.name ≡ None → SettlesFirstLabelNames a b ps k has → SettlesFirstLabelNames a b ps (k + 1) has
each_nameless a b ps k x has lt here none f = record {
  seen = f.seen;
  same = f.same;
  first = λ aloud B.
      let y = subst (λ left. FirstLabelNames B (labels_as a.item ps) left f.seen (sight a) (sight b)) (left_there a.item ps k x lt here) (f.first aloud B) in
      no_name (label_as a.item x) (ap (option_map (λ (u : Bor Token). tok_of u.now)) none) y;
}
