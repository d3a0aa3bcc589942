-- One word behind another, where the second makes the tree of both.
use Rattle.std.proofs.Common.{◌≡◌, ◌⊎◌, inl, inr, [], ◌++◌, refl, sym, ap, subst, ◌∙◌, append_assoc, append-nil}
use Rattle.jx9_syntax.specs.Grammar.{Rule, Seq, second}
use Rattle.jx9_syntax.specs.Making.{Making, mapped, then_made}
use Rattle.jx9_syntax.specs.Words.{Nothing, Map, Then}
use Rattle.jx9_parse.specs.Reading.{Tokens}
use Rattle.jx9_parse.proofs.After.{OrAfter}

abbrev pub Bind : {A B : Type 0} → Rule A → (Making A → Rule B) → Rule B
Bind L M = Then L M second

-- what the first makes is given to what makes the tree
abbrev pub Given : {A B C : Type 0} → (A → B → C) → Rule B → Making A → Rule C
Given f K x = Map K (then_made f x)

module _ {A B C : Type 0} (f : A → B → C) (L : Rule A) (K : Rule B) where
  pub to_bind : (w : Tokens) (m : Making C) → Seq f L K w m → Bind L (Given f K) w m
  to_bind w m is = record { front = is.front; back = is.back; left = is.left; right = m; parts = is.parts; is_left = is.is_left; is_right = record { value = is.right; is_word = is.is_right; is_value = is.is_value }; is_value = refl }

  pub from_bind : (w : Tokens) (m : Making C) → Bind L (Given f K) w m → Seq f L K w m
  from_bind w m is = record { front = is.front; back = is.back; left = is.left; right = is.is_right.value; parts = is.parts; is_left = is.is_left; is_right = is.is_right.is_word; is_value = is.is_value ∙ is.is_right.is_value }

module _ {A B C : Type 0} (L : Rule A) (M : Making A → Rule B) (N : Making B → Rule C) where
  pub to_right : (w : Tokens) (m : Making C) → Bind (Bind L M) N w m → Bind L (λ x. Bind (M x) N) w m
  to_right w m is = let l = is.is_left in record {
    front = l.front;
    back = l.back ++ is.back;
    left = l.left;
    right = m;
    parts = is.parts ∙ ap (λ (u : Tokens). u ++ is.back) l.parts ∙ append_assoc l.front l.back is.back;
    is_left = l.is_left;
    is_right = record { front = l.back; back = is.back; left = is.left; right = is.right; parts = refl; is_left = subst (λ (y : Making B). M l.left l.back y) (sym l.is_value) l.is_right; is_right = is.is_right; is_value = is.is_value };
    is_value = refl;
  }

  pub to_left : (w : Tokens) (m : Making C) → Bind L (λ x. Bind (M x) N) w m → Bind (Bind L M) N w m
  to_left w m is = let r = is.is_right in record {
    front = is.front ++ r.front;
    back = r.back;
    left = r.left;
    right = r.right;
    parts = is.parts ∙ ap (λ (u : Tokens). is.front ++ u) r.parts ∙ sym (append_assoc is.front r.front r.back);
    is_left = record { front = is.front; back = r.front; left = is.left; right = r.left; parts = refl; is_left = is.is_left; is_right = r.is_left; is_value = refl };
    is_right = r.is_right;
    is_value = is.is_value ∙ r.is_value;
  }

pub bind_left : {A B : Type 0} (L K : Rule A) (M : Making A → Rule B) → ((w : Tokens) (m : Making A) → L w m → K w m) → (w : Tokens) (m : Making B) → Bind L M w m → Bind K M w m
bind_left L K M h w m is = record { front = is.front; back = is.back; left = is.left; right = is.right; parts = is.parts; is_left = h is.front is.left is.is_left; is_right = is.is_right; is_value = is.is_value }

pub bind_right : {A B : Type 0} (L : Rule A) (M N : Making A → Rule B) → ((x : Making A) (w : Tokens) (m : Making B) → M x w m → N x w m) → (w : Tokens) (m : Making B) → Bind L M w m → Bind L N w m
bind_right L M N h w m is = record { front = is.front; back = is.back; left = is.left; right = is.right; parts = is.parts; is_left = is.is_left; is_right = h is.left is.back is.right is.is_right; is_value = is.is_value }

-- nothing behind it
pub to_nothing : {A B : Type 0} (L : Rule A) (f : A → B) (w : Tokens) (m : Making B) → Map L (mapped f) w m → Bind L (λ x. Map (Nothing x) (mapped f)) w m
to_nothing L f w m is = record { front = w; back = []; left = is.value; right = m; parts = sym (append-nil w); is_left = is.is_word; is_right = record { value = is.value; is_word = record { is_word = refl; is_value = refl }; is_value = is.is_value }; is_value = refl }

pub from_nothing : {A B : Type 0} (L : Rule A) (f : A → B) (w : Tokens) (m : Making B) → Bind L (λ x. Map (Nothing x) (mapped f)) w m → Map L (mapped f) w m
from_nothing {A} {B} L f w m is =
    let r = is.is_right in
    let e : w ≡ is.front = is.parts ∙ ap (λ (u : Tokens). is.front ++ u) r.is_word.is_word ∙ append-nil is.front in
    record { value = is.left; is_word = subst (λ (u : Tokens). L u is.left) (sym e) is.is_left; is_value = is.is_value ∙ r.is_value ∙ ap (mapped f) r.is_word.is_value }

module _ {A B : Type 0} (L : Rule A) (M N : Making A → Rule B) where
  pub bind_cases : (w : Tokens) (m : Making B) → Bind L (OrAfter M N) w m → Bind L M w m ⊎ Bind L N w m
  bind_cases w m is = by is.is_right
    where
      by : OrAfter M N is.left is.back is.right → Bind L M w m ⊎ Bind L N w m
      by (inl r) = inl (record { front = is.front; back = is.back; left = is.left; right = is.right; parts = is.parts; is_left = is.is_left; is_right = r; is_value = is.is_value })
      by (inr r) = inr (record { front = is.front; back = is.back; left = is.left; right = is.right; parts = is.parts; is_left = is.is_left; is_right = r; is_value = is.is_value })

  pub bind_inl : (w : Tokens) (m : Making B) → Bind L M w m → Bind L (OrAfter M N) w m
  bind_inl = bind_right L M (OrAfter M N) (λ x w m is. inl is)

  pub bind_inr : (w : Tokens) (m : Making B) → Bind L N w m → Bind L (OrAfter M N) w m
  bind_inr = bind_right L N (OrAfter M N) (λ x w m is. inr is)
