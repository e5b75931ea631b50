use Rattle.syntax.specs.declared.operator.Operator.{Operator}
use Rattle.syntax.specs.declared.operator.Operator.TheVariants.{Add, Sub, Mul, Div, Less, AtMost, Greater, AtLeast, Equal, NotEqual}
use Rattle.syntax.specs.declared.operator.Level.{Level}
use Rattle.syntax.specs.declared.operator.Level.TheVariants.{Relation, Sum, Product}

abbrev pub level_of : Operator → Level
level_of Add = Sum
level_of Sub = Sum
level_of Mul = Product
level_of Div = Product
level_of Less = Relation
level_of AtMost = Relation
level_of Greater = Relation
level_of AtLeast = Relation
level_of Equal = Relation
level_of NotEqual = Relation
