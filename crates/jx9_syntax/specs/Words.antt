-- Sets of token lists with what each means, and how they are put together.
use Rattle.std.specs.Prelude.{◌≡◌, List, [], ◌∷◌, ◌++◌, Option, Some}
use Rattle.jx9_syntax.specs.declared.token.Token.{Token}

-- which lists of tokens are words, and what each means
abbrev pub Language : Type 0 → Type 1
Language A = List Token → A → Type 0

-- one token that tells a value
pub record One {A : Type 0} (test : Token → Option A) (word : List Token) (a : A) : Type 0 where
  pub token : Token
  pub is_word : word ≡ token ∷ []
  pub tells : test token ≡ Some a

-- no token
pub record Nothing {A : Type 0} (value : A) (word : List Token) (a : A) : Type 0 where
  pub is_word : word ≡ []
  pub is_value : a ≡ value

-- the words of L, with another meaning
pub record Map {A B : Type 0} (L : Language A) (f : A → B) (word : List Token) (b : B) : Type 0 where
  pub value : A
  pub is_word : L word value
  pub is_value : b ≡ f value

-- a word of L, and behind it one of M, which may depend on what the first means
pub record Then {A B C : Type 0} (L : Language A) (M : A → Language B) (f : A → B → C) (word : List Token) (c : C) : Type 0 where
  pub front : List Token
  pub back : List Token
  pub left : A
  pub right : B
  pub parts : word ≡ front ++ back
  pub is_left : L front left
  pub is_right : M left back right
  pub is_value : c ≡ f left right

-- words of L, one behind the other
abbrev pub Many : {A : Type 0} → Language A → List Token → List A → Type 0
Many L word [] = word ≡ []
Many L word (a ∷ others) = (front : List Token) × (back : List Token) × (word ≡ front ++ back) × L front a × Many L back others
