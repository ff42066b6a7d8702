-- The text of the prelude: the names that every text has at hand, as a signature (OCaml manual, "The core library" and "The standard library").
use Rattle.std.specs.Prelude.{ℕ, List, [], ◌∷◌, ◌++◌, codes}

-- lines, each with its end
abbrev pub lines : List (List ℕ) → List ℕ
lines [] = []
lines (l ∷ ls) = l ++ 10 ∷ lines ls

-- the text
unfoldable pub prelude_text : List ℕ
prelude_text = lines (
    codes "type 'a option = None | Some of 'a" ∷
    codes "type 'a ref = { mutable contents : 'a }" ∷
    codes "type ('a, 'b) result = Ok of 'a | Error of 'b" ∷
    codes "exception Not_found" ∷
    codes "exception Exit" ∷
    codes "exception End_of_file" ∷
    codes "exception Division_by_zero" ∷
    codes "exception Failure of string" ∷
    codes "exception Invalid_argument of string" ∷
    codes "val raise : exn -> 'a" ∷
    codes "val failwith : string -> 'a" ∷
    codes "val invalid_arg : string -> 'a" ∷
    codes "val ( = ) : 'a -> 'a -> bool" ∷
    codes "val ( <> ) : 'a -> 'a -> bool" ∷
    codes "val ( < ) : 'a -> 'a -> bool" ∷
    codes "val ( > ) : 'a -> 'a -> bool" ∷
    codes "val ( <= ) : 'a -> 'a -> bool" ∷
    codes "val ( >= ) : 'a -> 'a -> bool" ∷
    codes "val ( == ) : 'a -> 'a -> bool" ∷
    codes "val ( != ) : 'a -> 'a -> bool" ∷
    codes "val compare : 'a -> 'a -> int" ∷
    codes "val min : 'a -> 'a -> 'a" ∷
    codes "val max : 'a -> 'a -> 'a" ∷
    codes "val not : bool -> bool" ∷
    codes "val ( && ) : bool -> bool -> bool" ∷
    codes "val ( || ) : bool -> bool -> bool" ∷
    codes "val ( ~- ) : int -> int" ∷
    codes "val ( + ) : int -> int -> int" ∷
    codes "val ( - ) : int -> int -> int" ∷
    codes "val ( * ) : int -> int -> int" ∷
    codes "val ( / ) : int -> int -> int" ∷
    codes "val ( mod ) : int -> int -> int" ∷
    codes "val ( land ) : int -> int -> int" ∷
    codes "val ( lor ) : int -> int -> int" ∷
    codes "val ( lxor ) : int -> int -> int" ∷
    codes "val ( lsl ) : int -> int -> int" ∷
    codes "val ( lsr ) : int -> int -> int" ∷
    codes "val ( asr ) : int -> int -> int" ∷
    codes "val abs : int -> int" ∷
    codes "val succ : int -> int" ∷
    codes "val pred : int -> int" ∷
    codes "val max_int : int" ∷
    codes "val min_int : int" ∷
    codes "val ( ~-. ) : float -> float" ∷
    codes "val ( +. ) : float -> float -> float" ∷
    codes "val ( -. ) : float -> float -> float" ∷
    codes "val ( *. ) : float -> float -> float" ∷
    codes "val ( /. ) : float -> float -> float" ∷
    codes "val ( ** ) : float -> float -> float" ∷
    codes "val float_of_int : int -> float" ∷
    codes "val int_of_float : float -> int" ∷
    codes "val sqrt : float -> float" ∷
    codes "val ( ^ ) : string -> string -> string" ∷
    codes "val string_of_int : int -> string" ∷
    codes "val string_of_bool : bool -> string" ∷
    codes "val string_of_float : float -> string" ∷
    codes "val int_of_string : string -> int" ∷
    codes "val char_of_int : int -> char" ∷
    codes "val int_of_char : char -> int" ∷
    codes "val ignore : 'a -> unit" ∷
    codes "val fst : 'a * 'b -> 'a" ∷
    codes "val snd : 'a * 'b -> 'b" ∷
    codes "val ( @ ) : 'a list -> 'a list -> 'a list" ∷
    codes "val ( |> ) : 'a -> ('a -> 'b) -> 'b" ∷
    codes "val ( @@ ) : ('a -> 'b) -> 'a -> 'b" ∷
    codes "val ref : 'a -> 'a ref" ∷
    codes "val ( ! ) : 'a ref -> 'a" ∷
    codes "val ( := ) : 'a ref -> 'a -> unit" ∷
    codes "val incr : int ref -> unit" ∷
    codes "val decr : int ref -> unit" ∷
    codes "val print_char : char -> unit" ∷
    codes "val print_string : string -> unit" ∷
    codes "val print_int : int -> unit" ∷
    codes "val print_endline : string -> unit" ∷
    codes "val print_newline : unit -> unit" ∷
    codes "val read_line : unit -> string" ∷
    codes "val exit : int -> 'a" ∷
    codes "module List : sig" ∷
    codes "  val length : 'a list -> int" ∷
    codes "  val hd : 'a list -> 'a" ∷
    codes "  val tl : 'a list -> 'a list" ∷
    codes "  val nth : 'a list -> int -> 'a" ∷
    codes "  val rev : 'a list -> 'a list" ∷
    codes "  val append : 'a list -> 'a list -> 'a list" ∷
    codes "  val concat : 'a list list -> 'a list" ∷
    codes "  val iter : ('a -> unit) -> 'a list -> unit" ∷
    codes "  val map : ('a -> 'b) -> 'a list -> 'b list" ∷
    codes "  val mapi : (int -> 'a -> 'b) -> 'a list -> 'b list" ∷
    codes "  val fold_left : ('a -> 'b -> 'a) -> 'a -> 'b list -> 'a" ∷
    codes "  val fold_right : ('a -> 'b -> 'b) -> 'a list -> 'b -> 'b" ∷
    codes "  val exists : ('a -> bool) -> 'a list -> bool" ∷
    codes "  val for_all : ('a -> bool) -> 'a list -> bool" ∷
    codes "  val mem : 'a -> 'a list -> bool" ∷
    codes "  val find : ('a -> bool) -> 'a list -> 'a" ∷
    codes "  val filter : ('a -> bool) -> 'a list -> 'a list" ∷
    codes "  val assoc : 'a -> ('a * 'b) list -> 'b" ∷
    codes "  val combine : 'a list -> 'b list -> ('a * 'b) list" ∷
    codes "  val split : ('a * 'b) list -> 'a list * 'b list" ∷
    codes "  val sort : ('a -> 'a -> int) -> 'a list -> 'a list" ∷
    codes "end" ∷
    codes "module Option : sig" ∷
    codes "  val get : 'a option -> 'a" ∷
    codes "  val bind : 'a option -> ('a -> 'b option) -> 'b option" ∷
    codes "  val map : ('a -> 'b) -> 'a option -> 'b option" ∷
    codes "  val iter : ('a -> unit) -> 'a option -> unit" ∷
    codes "  val is_none : 'a option -> bool" ∷
    codes "  val is_some : 'a option -> bool" ∷
    codes "end" ∷
    codes "module String : sig" ∷
    codes "  val length : string -> int" ∷
    codes "  val get : string -> int -> char" ∷
    codes "  val make : int -> char -> string" ∷
    codes "  val sub : string -> int -> int -> string" ∷
    codes "  val concat : string -> string list -> string" ∷
    codes "  val compare : string -> string -> int" ∷
    codes "end" ∷ []
    )
