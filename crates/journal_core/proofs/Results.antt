-- Facts on results and options.
use Rattle.std.proofs.Common.{Result, Ok, Err, OnOk, IfNone, IfSome, MatchOption, ◌≡◌, Option, Some, None, subst}

pub some_same : {A : Type 0} (o : Option A) (x y : A) → o ≡ Some x → o ≡ Some y → x ≡ y
some_same o x y first second = cc

pub on_ok : {T E P Q : Type 0} → (r : Result T E) → (P → Q) → OnOk r P → OnOk r Q
on_ok (Ok x) f h = f h
on_ok (Err e) f h = h

pub match_of : {T : Type 0} {P P' : Type 0} {Q Q' : T → Type 0} → (o : Option T) → IfNone o P → IfSome o Q
    → (P → P') → ((x : T) → Q x → Q' x) → MatchOption o P' Q'
match_of (Some x) none some f h = h x some
match_of None none some f h = f none

pub match_some : {T : Type 0} (P : Type 0) (Q : T → Type 0) (o : Option T) (x : T) → MatchOption o P Q → o ≡ Some x → Q x
match_some {T} P Q o x h is = subst (λ (v : Option T). MatchOption v P Q) is h

pub match_none : {T : Type 0} (P : Type 0) (Q : T → Type 0) (o : Option T) → MatchOption o P Q → o ≡ None → P
match_none {T} P Q o h is = subst (λ (v : Option T). MatchOption v P Q) is h
