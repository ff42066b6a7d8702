-- What is said of types and of faults.
use Rattle.std.proofs.Common.{◌≡◌, ℕ, List, [], ◌∷◌, ◌++◌, length, map, append-nil, sym, ◌∙◌, ap, subst, true, false, Result, Ok, Err, IfOk}
use Rattle.std.specs.Prelude.{Some, None, option_map, reverse}
use Rattle.std.specs.List.{AllZip}
use Rattle.std.proofs.Math.Logic.{∥∥₁_elim, ∥∥₁_map}
use Rattle.std.proofs.Props.{props}
use Rattle.std.specs.declared.alloc.AllocError.{AllocError}
use Rattle.tree_model.specs.Nodes.{nodes_at}
use Rattle.tree_model.specs.Trees.{Tree}
use Rattle.plain_model.specs.Plain.{AllSeenWithin}
use Rattle.plain_model.proofs.Within.{seen_within}
use Rattle.query_model.specs.Faults.{TyperFault, by_typer}
use Rattle.query_model.specs.TypedNodes.{Typed, typed_at}
use Rattle.fault_model.specs.Refused.{AreOfValues, AreRefused}
use Rattle.service_model.specs.Replies as said
use Rattle.service_model.specs.Structure.{faults_in, faults_said, items_in, ErrorsAre, ErrorsBy, FaultsAre, TyperFaults}
use Rattle.service_model.specs.Answers.{EnclosingBy, EnclosingIs, ShownTypes, TypesAre, shown_place, start_and_end, typed_among, typed_round, types_or_none}
use Rattle.token_laws.proofs.Ones.{lex_one}
use Rattle.syntax_tree.specs.View.{trees_of}
use Rattle.frame_parser.specs.declared.whole.Parsed.{Parsed}
use Rattle.plain_typing.specs.View.{seen_of}
use Rattle.text_queries.specs.Faults.{fault_of, typer_fault_of}
use Rattle.env_table.specs.declared.faults.Fault as typer
use Rattle.analysis_api.specs.declared.Analysis.{Analysis}
use Rattle.analysis_api.specs.Types.{AreSettled}
use Rattle.typed_model.specs.Shown.{AreShown}
use Rattle.shown_laws.proofs.Shown.{round_shown, Asks}
use Rattle.query_engine.specs.Typed.{IsNoNode, span_of}
use Rattle.query_engine.specs.Texts.{IsShown, IsTypeText}
use Rattle.query_engine.specs.declared.asked.Asked.{Asked}
use Rattle.query_engine.specs.declared.types.Typed as engine
use Rattle.query_engine.specs.declared.asked.QueryFault.{QueryFault}
use Rattle.query_engine.specs.declared.asked.QueryFault.TheVariants as fault
use Rattle.json_lines.specs.Means.{said_of, typed_of}
use Rattle.json_lines.specs.declared.reply.Reply.{Reply}
use Rattle.json_lines.specs.declared.reply.Typed as json
use Rattle.text_changes.proofs.Typed.{typer_found}
use Rattle.session.specs.Lines.{failure_in}
use Rattle.session.specs.Queries.{AreFaultsOf, AreTypesBy, AreTypesRound, IsNotPlain, MayBeIllTyped}
use Rattle.text_reading.specs.PlainTexts.{IsReadAs, plain_of}
use Rattle.text_reading.specs.Structures.{parsed_in, type_text_of, AreItemsOf, IsParsedAs}
use Rattle.text_reading.specs.declared.plain.PlainText.{PlainText}
use Rattle.text_reading.specs.declared.reading.ReadText.{ReadText}

-- the typed nodes of a plain text stand within it
pub plain_within : (text : List ℕ) (read : ReadText) (p : PlainText) → IsReadAs text read → read.plain ≡ Some p → AllSeenWithin (length text) (map seen_of p.seen.items)
plain_within text read p h is = seen_within (length text) h.tokens (trees_of p.tree) (map seen_of p.seen.items) h.within (sym h.plain ∙ ap (option_map plain_of) is)

-- the types of a plain text
pub enclosing_plain : (text : List ℕ) (o : ℕ) (read : ReadText) (p : PlainText) (s : said.Said) → IsReadAs text read → read.plain ≡ Some p
    → s ≡ types_or_none (typed_among text (map seen_of p.seen.items) (reverse (nodes_at o (trees_of p.tree)))) → EnclosingIs text o s
enclosing_plain text o read p s h is types =
    (h.tokens, h.lexed, subst (λ q. EnclosingBy text o h.tokens q s) (sym (ap (option_map plain_of) is) ∙ h.plain) types)

-- a text that isn't read as a plain one
pub not_plain : (text : List ℕ) (read : ReadText) → IsReadAs text read → read.plain ≡ None → IsNotPlain text
not_plain text read h is = (h.tokens, h.lexed, sym h.plain ∙ ap (option_map plain_of) is)

-- the types of a text that isn't plain
pub enclosing_typed : (text : List ℕ) (o : ℕ) (s : said.Said) → IsNotPlain text → AreTypesRound text o s → EnclosingIs text o s
enclosing_typed text o s (tokens, lexed, none) (ts, lex, types) = (
  tokens,
  lexed,
  subst (λ q. EnclosingBy text o tokens q s) (sym none) (subst (λ us. TypesAre text o (items_in us) s) (lex_one text ts tokens lex lexed) types),
)

-- the types of a parsed text
pub types_parsed : (text : List ℕ) (o : ℕ) (p : Parsed) (s : said.Said) → IsParsedAs text p → TypesAre text o (trees_of p.tree) s → AreTypesRound text o s
types_parsed text o p s h types = (h.tokens, h.lexed, subst (λ items. TypesAre text o items s) h.items types)

-- the faults of a text that is well typed
pub errors_plain : (text : List ℕ) (read : ReadText) (s : said.Said) → IsReadAs text read → read.is_well_typed ≡ true
    → s ≡ faults_said text (map fault_of (parsed_in read.parsed).faults.items ++ []) → ErrorsAre text s
errors_plain text read s h holds page = (
  h.tokens,
  h.lexed,
  subst (λ w. ErrorsBy w text h.tokens s) (sym holds ∙ h.well_typed)
      (page ∙ ap (faults_said text) (append-nil (map fault_of (parsed_in read.parsed).faults.items) ∙ h.faults)),
)

-- a text that isn't read as a well typed one
pub may_be_ill : (text : List ℕ) (read : ReadText) → IsReadAs text read → read.is_well_typed ≡ false → MayBeIllTyped text
may_be_ill text read h is = (h.tokens, h.lexed, sym h.well_typed ∙ is)

-- the faults of another text
pub errors_typed : (text : List ℕ) (s : said.Said) → MayBeIllTyped text → AreFaultsOf text s → ErrorsAre text s
errors_typed text s (tokens, lexed, ill) (ts, lex, page) = (
  tokens,
  lexed,
  subst (λ w. ErrorsBy w text tokens s) (sym ill) (subst (λ us. FaultsAre text (faults_in us) s) (lex_one text ts tokens lex lexed) page),
)

-- the faults of a parsed text, with some of the typer
faults_parsed : (text : List ℕ) (p : Parsed) (typed : List TyperFault) (s : said.Said) → IsParsedAs text p → TyperFaults text typed → s ≡ faults_said text (map fault_of p.faults.items ++ map by_typer typed) → AreFaultsOf text s
faults_parsed text p typed s h known page = (h.tokens, h.lexed, (typed, known, page ∙ ap (λ fs. faults_said text (fs ++ map by_typer typed)) h.faults))

-- and what is said of them
pub faults_found : (text : List ℕ) (p : Parsed) (items : List Tree) (found : List typer.Fault) (s : said.Said) → IsParsedAs text p → items ≡ trees_of p.tree → (AreOfValues items → ∥ AreRefused items (map typer_fault_of found) ∥₁) →
    s ≡ faults_said text (map fault_of p.faults.items ++ map by_typer (map typer_fault_of found)) → AreFaultsOf text s
faults_found text p items found s h are refused page = faults_parsed text p (map typer_fault_of found) s h (typer_found text p items found h are refused) page

-- the texts of types that are shown for typed nodes
shown_texts : (a : Asked) (nodes : List Typed) (types : List engine.Typed) → AllZip (IsShown a) nodes types → AllZip (λ n t. IsTypeText a n.id t) nodes (map type_text_of types)
shown_texts a [] [] all = tt
shown_texts a [] (t ∷ ts) all = absurd all
shown_texts a (n ∷ ns) [] all = absurd all
shown_texts a (n ∷ ns) (t ∷ ts) all = (all.0.text, shown_texts a ns ts all.1)

-- where there are typed nodes, these types and their places are said
pub some_types : (text : List ℕ) (o : ℕ) (a : Asked) (types : List engine.Typed) (shown : List json.Typed) (s : said.Said) → map span_of types ≡ typed_round o (trees_of a.tree.now) → AllZip (IsShown a) (reverse (typed_at o (trees_of a.tree.now))) types →
    map start_and_end (map typed_of shown) ≡ map (shown_place text) (map span_of types) → map (λ t. t.type_text) (map typed_of shown) ≡ map type_text_of types → s ≡ types_or_none (map typed_of shown) → AreTypesBy text o a s
some_types text o a types shown s spans all places texts is = record {
  types = map typed_of shown;
  places = places ∙ ap (map (shown_place text)) spans;
  texts = subst (AllZip (λ n t. IsTypeText a n.id t) (reverse (typed_at o (trees_of a.tree.now)))) (sym texts) (shown_texts a (reverse (typed_at o (trees_of a.tree.now))) types all);
  is = is;
}

-- where there is none, that there is none
pub no_types : (text : List ℕ) (o : ℕ) (a : Asked) (e : QueryFault) (s : said.Said) → IsNoNode e (reverse (typed_at o (trees_of a.tree.now))) → failure_in e ≡ Some s → AreTypesBy text o a s
no_types text o a fault.NoNode s none is =
    let same : said.no_node ≡ s = cc in
    record {
      types = [];
      places = ap (λ ns. map (shown_place text) (map (λ n. n.span) ns)) (sym none);
      texts = subst (λ ns. AllZip (λ n t. IsTypeText a n.id t) ns []) (sym none) tt;
      is = sym same;
    }
no_types text o a fault.NotAName s none is = absurd none
no_types text o a (fault.Unbound ident) s none is = absurd none
no_types text o a fault.NoMemory s none is = cc

-- So what is said is what is known of the types of a text, by an analysis of its items.
pub types_known : (text : List ℕ) (o : ℕ) (a : Asked) (x : Analysis) (s : said.Said) → AreItemsOf text (trees_of a.tree.now) → Asks a x → (AreOfValues (trees_of a.tree.now) → ∥ AreSettled (trees_of a.tree.now) x ∥₁) →
    AreTypesBy text o a s → TypesAre text o (trees_of a.tree.now) s
unfolding items_in
types_known text o a x s of asks typed by = (by.types, by.places, shown, by.is)
  where
    shown : ShownTypes text o (map (λ t. t.type_text) by.types)
    shown t =
        let are : items_in t.tokens ≡ trees_of a.tree.now = ap items_in (lex_one text t.tokens of.tokens t.lexed of.lexed) ∙ sym of.are in
        let values : AreOfValues (trees_of a.tree.now) = subst AreOfValues are t.items in
        subst (λ us. ∥ AreShown us (reverse (typed_at o us)) (map (λ t. t.type_text) by.types) ∥₁) (sym are)
        (∥∥₁_map (typed values) (λ w. round_shown a x asks (trees_of a.tree.now) values w o (map (λ t. t.type_text) by.types) by.texts))

-- what follows of what is said
pub said_then : (P Q : said.Said → Type 0) (r : Result Reply AllocError) → ((s : said.Said) → P s → Q s) → IfOk r (λ x. P (said_of x)) → IfOk r (λ x. Q (said_of x))
said_then P Q (Ok x) then is = then (said_of x) is
said_then P Q (Err e) then is = tt

-- what a call gives of what is known, where something is known
pub given_known : {A E K : Type 0} (P : A → Type 0) (r : Result A E) → ∥ K ∥₁ → (K → IfOk r P) → IfOk r (λ a. ∥ P a ∥₁)
given_known P (Ok a) known gives = ∥∥₁_map known gives
given_known P (Err e) known gives = tt

-- and what follows of it
pub so_known : {K V W : Type 0} → ∥ K ∥₁ → (K → V → ∥ W ∥₁) → V → ∥ W ∥₁
so_known known gives v = ∥∥₁_elim known (hlevel props) (λ k. gives k v)
