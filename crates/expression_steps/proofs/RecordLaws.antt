-- The calls of record expressions carry what the laws of records take.
use Rattle.std.proofs.Common.{◌≡◌, ◌∙◌, ℕ, true, false, List, [], ◌∷◌, map, Option, Some, None, refl, sym, ap, subst, if◌then◌else◌}
use Rattle.std.specs.Prelude.{Result, Ok, Err, IfOk, OnOk}
use Rattle.std.specs.declared.alloc.AllocError.{AllocError}
use Rattle.std.specs.declared.alloc.Global.{Global}
use Rattle.std.specs.declared.rc.Rc.{Rc}
use denote.Ref.{Bor}
use Rattle.text_terms.specs.Bytes.{str_bytes}
use Rattle.text_terms.specs.declared.Span.{Span}
use Rattle.token_model.specs.Kinds.{Tok}
use Rattle.tree_model.specs.Trees.{Place, Part, taken, inner, missing}
use Rattle.signature_model.specs.Declarations.{Name}
use Rattle.syntax_tree.specs.View.{place_of, tok_of}
use Rattle.syntax_tree.specs.declared.tree.Node.{Node}
use Rattle.syntax_tree.specs.declared.tree.Token.{Token}
use Rattle.row_parts.specs.declared.slots.Operand.{Operand}
use Rattle.row_parts.specs.Numbered as operands
use Rattle.row_parts.specs.Numbered.{Numbered, operand_view, part_of, token_view}
use Rattle.typing_model.specs.Parts.{Written}
use Rattle.type_terms.specs.declared.types.NodeRef.{NodeRef}
use Rattle.env_table.specs.declared.entries.Declaration.{Declaration}
use Rattle.env_table.specs.declared.entries.Entry.{Entry}
use Rattle.env_table.specs.declared.entries.Label.{Label}
use Rattle.env_table.specs.declared.faults.FaultKind.TheVariants as fault
use Rattle.env_table.specs.declared.seen.Seen.{Seen}
use Rattle.typing_state.specs.declared.parts.Parts.{Parts}
use Rattle.typing_state.specs.Bound.{names_of_tokens}
use Rattle.typing_state.specs.Goes.{faults_of, Goes, OnlyFaults, OnlyIndex, Told}
use Rattle.typing_state.specs.Messages.{incomplete_text, no_label_text}
use Rattle.typing_state.specs.Notes.{Noted, NotedNameless}
use Rattle.typing_conditions.proofs.Carried.{carried_refl, carried_trans}
use Rattle.typing_steps.specs.Typing.{path_as, TypesAny}
use Rattle.typing_steps.specs.Warning.{OnlyNotes}
use Rattle.use_typing.specs.declared.record_types.RecordType.{RecordType}
use Rattle.use_typing.specs.declared.record_types.RecordType.TheVariants as record_type
use Rattle.use_typing.specs.declared.uses.Used.{Used}
use Rattle.use_typing.specs.Labels.{is_named_in}
use Rattle.use_typing.specs.Records.{TypesRecordType, node_of}
use Rattle.use_typing.specs.Uses.{GivenOrNew}
use Rattle.use_typing.specs.Paths.{labels_of}
use Rattle.use_typing.proofs.Recording.{named_among}
use Rattle.record_steps.specs.Named.{labels_here}
use Rattle.operand_laws.specs.Operands.{number_of}
use Rattle.record_steps.specs.Recording.{NotesNode}
use Rattle.record_steps.proofs.Noted.{untyped_scope, untyped_node}
use Rattle.record_rows.specs.Fields.{RecordHere}
use Rattle.record_rows.specs.Operands.{labels_at}
use Rattle.record_rows.specs.Completing.{absent_here, AsksAbsent, AsksComplete, Completes}
use Rattle.record_rows.specs.ValueOperands.{PunsLabel, PunsValue}
use Rattle.record_rows.specs.RecordExpressions.{TypesHere, GivesRecord, RefusesIf, FindsRecord, EndsRecord}
use Rattle.record_rows.proofs.Completing.{complete_asked}
use Rattle.record_rows.proofs.Nodes.{notes_ask}
use Rattle.record_rows.proofs.RecordNodes.{made_finds, part_refused, refused_then}
use Rattle.expression_steps.specs.Records.{here_of, names_written, TakesName}

-- the record type of labels, by what is known of it
pub typed_here : (r : RecordType) (a b : Parts) (env : List Entry) (ps : List Written) → TypesRecordType r a b env ps → TypesHere (here_of r) a b env ps
typed_here (record_type.Known d m) a b env ps h = h
typed_here record_type.Open a b env ps h = h

-- that of a record that is made, by its first label and the operands that are its other fields
pub made_found : (r : Result RecordType AllocError) (a b e : Parts) (env : List Entry) (l : operands.Written) (os : List Numbered) (ls : List operands.Written) → ls ≡ l ∷ labels_of os → OnlyNotes a b → Goes a b → IfOk r (λ found. TypesRecordType found b e env (map path_as ls)) → Goes b e →
    IfOk r (λ found. FindsRecord a e env (here_of found) (λ n c. []) (path_as l ∷ labels_at os))
made_found (Err x) a b e env l os ls same notes goes typed goes_b = tt
made_found (Ok found) a b e env l os ls same notes goes typed goes_b =
    made_finds a b e env (here_of found) (path_as l ∷ labels_at os) notes goes (typed_here found b e env (path_as l ∷ labels_at os) (subst (λ ps. TypesRecordType found b e env (map path_as ps)) same typed)) goes_b

-- a first part that is there is refused
pub refused_there : (r : Result Unit AllocError) (o : Operand) (nd : Bor Node) (a b : Parts) → o.node ≡ Some nd → OnOk r (Told a.telling (faults_of a) (faults_of b) o.span fault.Label no_label_text) → OnlyFaults a b → OnOk r (RefusesIf (operand_view o).part a b (place_of o.span))
refused_there (Err e) o nd a b some told rest = tt
refused_there (Ok x) o nd a b some told rest = subst (λ n. RefusesIf (part_of n o.span) a b (place_of o.span)) (sym some) (part_refused a b o.span told rest)

-- of one that is missing nothing is asked
pub refused_missing : (o : Operand) (a : Parts) → o.node ≡ None → RefusesIf (operand_view o).part a a (place_of o.span)
refused_missing o a none = subst (λ n. RefusesIf (part_of n o.span) a a (place_of o.span)) (sym none) (λ F scope G. carried_refl)

-- the same before the fields that are missing
pub loose_begun : (r : Result Unit AllocError) (p : Part) (a b d : Parts) (at : Place) → RefusesIf p a b at → OnOk r (OnlyNotes b d) → OnOk r (RefusesIf p a d at)
loose_begun (Err e) p a b d at refused notes = tt
loose_begun (Ok x) (taken t) a b d at nothing notes = λ F scope G. carried_trans (nothing F scope G) (notes_ask b d notes F scope G)
loose_begun (Ok x) (inner t) a b d at refused notes = refused_then a b d at refused notes
loose_begun (Ok x) (missing q) a b d at nothing notes = λ F scope G. carried_trans (nothing F scope G) (notes_ask b d notes F scope G)

-- a field whose label is missing
pub pun_missing : (r : Result Unit AllocError) (o : Option (Bor Token)) (a b : Parts) (env : List Entry) (number k : ℕ) (wanted : Option NodeRef) → number_of a.item number ≡ k → o ≡ None → OnOk r (NotedNameless a b number env None) → OnlyIndex a b → OnOk r (PunsValue (token_view o) a b env k wanted)
pun_missing (Err e) o a b env number k wanted is none noted rest = tt
pun_missing (Ok x) o a b env number k wanted is none (names, empty, noted) rest = subst (λ q. PunsValue (token_view q) a b env k wanted) (sym none) (untyped_scope a b k number (record { env = env; ty = None; names = names }) refl noted rest is)

-- one whose label is there
pub pun_there : (r : Result Unit AllocError) (o : Option (Bor Token)) (t : Bor Token) (a b : Parts) (env : List Entry) (k : ℕ) (wanted : Option NodeRef) → o ≡ Some t → OnOk r (PunsLabel a b env k (tok_of t.now) wanted) → OnOk r (PunsValue (token_view o) a b env k wanted)
pun_there (Err e) o t a b env k wanted some puns = tt
pun_there (Ok x) o t a b env k wanted some puns = subst (λ q. PunsValue (token_view q) a b env k wanted) (sym some) puns

-- the value of its name, and the record of its node
pub pun_noted : (r : Result Unit AllocError) (a b d : Parts) (env : List Entry) (number k : ℕ) (t : Tok) (wanted : Option NodeRef) (seen : Seen) → seen.ty ≡ None → seen.env ≡ env → number_of b.item number ≡ k → TakesName a b env t wanted → OnOk r (Noted b.telling b d number seen) → OnlyIndex b d → OnOk r (PunsLabel a d env k t wanted)
pun_noted (Err e) a b d env number k t wanted seen none in_scope is x noted rest = tt
pun_noted (Ok u) a b d env number k t wanted seen none in_scope is x noted rest =
    record { used = x.used; asked = b; node = x.node; typed = x.typed k 1; goes = x.goes; equal = x.equal; noted = subst (NotesNode b d k) in_scope (untyped_node b d k number seen none noted rest is) }

-- the type of a record
pub record_given : (found : RecordType) (a b : Parts) (ty : NodeRef) → GivenOrNew (node_of found) a b ty → (node_of found ≡ None → TypesAny a b ty.0) → GivesRecord (here_of found) a b ty.0
record_given (record_type.Known d m) a b ty (is, same) any = (ap (λ (n : NodeRef). n.0) is, same)
record_given record_type.Open a b ty given any = any refl

-- the end of a record that is made
pub record_ended : (r : Result Used AllocError) (a b d : Parts) (here : RecordHere) (ts labels : List (Bor Token)) (span : Span) → ts ≡ labels → AsksComplete here (names_written ts) a b span → IfOk r (λ u. GivesRecord here b d u.ty.0) →
    IfOk r (λ u. EndsRecord a d here (names_written labels) (place_of span) u.ty.0)
record_ended (Err e) a b d here ts labels span same asks gives = tt
record_ended (Ok u) a b d here ts labels span same asks gives = record { mid = b; complete = subst (λ ls. Completes a b here (names_written ls) (place_of span)) same (complete_asked a b here (names_written ts) span asks); type = gives }

-- a label that is written, among others
pub absent_written : (l : Label) (ls : List Label) (ts : List Tok) → is_named_in (str_bytes l.name) ts ≡ true → absent_here (l ∷ ls) (names_of_tokens ts) ≡ absent_here ls (names_of_tokens ts)
absent_written l ls ts written = ap (λ b. if b then absent_here ls (names_of_tokens ts) else Some (str_bytes l.name)) (sym (named_among (str_bytes l.name) ts) ∙ written)

-- one that isn't
pub absent_first : (l : Label) (ls : List Label) (ts : List Tok) → is_named_in (str_bytes l.name) ts ≡ false → absent_here (l ∷ ls) (names_of_tokens ts) ≡ Some (str_bytes l.name)
absent_first l ls ts unwritten = ap (λ b. if b then absent_here ls (names_of_tokens ts) else Some (str_bytes l.name)) (sym (named_among (str_bytes l.name) ts) ∙ unwritten)

-- where no record type is known nothing is asked
pub complete_open : (found : RecordType) (seen : List Name) (a : Parts) (span : Span) → found ≡ record_type.Open → AsksComplete (here_of found) seen a a span
complete_open found seen a span is = subst (λ r. AsksComplete (here_of r) seen a a span) (sym is) refl

-- where no label is absent all stays
pub complete_kept : (found : RecordType) (d : Rc Declaration Global) (m : NodeRef) (seen : List Name) (a b : Parts) (span : Span) → found ≡ record_type.Known d m → absent_here (labels_here d.value.shape) seen ≡ None → b ≡ a → AsksComplete (here_of found) seen a b span
complete_kept found d m seen a b span is none same = subst (λ r. AsksComplete (here_of r) seen a b span) (sym is) (subst (λ o. AsksAbsent o a b span) (sym none) same)

-- an absent one is reported
pub complete_told : (r : Result Unit AllocError) (found : RecordType) (d : Rc Declaration Global) (m : NodeRef) (seen : List Name) (x : Name) (a mid b : Parts) (span : Span) → found ≡ record_type.Known d m → absent_here (labels_here d.value.shape) seen ≡ Some x → mid ≡ a →
    OnOk r (Told mid.telling (faults_of mid) (faults_of b) span fault.Complete (incomplete_text x)) → OnlyFaults mid b → OnOk r (AsksComplete (here_of found) seen a b span)
complete_told (Err e) found d m seen x a mid b span is some same told rest = tt
complete_told (Ok u) found d m seen x a mid b span is some same told rest =
    subst (λ z. AsksComplete (here_of found) seen z b span) same (subst (λ r. AsksComplete (here_of r) seen mid b span) (sym is) (subst (λ o. AsksAbsent o mid b span) (sym some) (told, rest)))
