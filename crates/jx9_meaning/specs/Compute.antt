-- All that unfolds when the meaning of a script is computed.

unfoldable pub trees : Unit {0}
unfolding
    Rattle.jx9_syntax.specs.declared.expression.Access.TheViews.out-Node Rattle.jx9_syntax.specs.declared.expression.Access.TheViews.roll-Node
    Rattle.jx9_syntax.specs.declared.expression.Access.TheViews.out-Access Rattle.jx9_syntax.specs.declared.expression.Access.TheViews.roll-Access
    Rattle.jx9_syntax.specs.declared.expression.Access.TheBlock.hidden-the_row-Access-0 Rattle.jx9_syntax.specs.declared.expression.Access.TheBlock.shown-the_row-Access-0
    Rattle.jx9_syntax.specs.declared.expression.Access.TheBlock.hidden-the_row-Expr-1 Rattle.jx9_syntax.specs.declared.expression.Access.TheBlock.shown-the_row-Expr-1
    Rattle.jx9_syntax.specs.declared.expression.Access.TheBlock.hidden-the_row-Expr-2 Rattle.jx9_syntax.specs.declared.expression.Access.TheBlock.shown-the_row-Expr-2
    Rattle.jx9_syntax.specs.declared.expression.Access.TheBlock.hidden-the_row-Entry-3 Rattle.jx9_syntax.specs.declared.expression.Access.TheBlock.shown-the_row-Entry-3
    Rattle.jx9_syntax.specs.declared.expression.Access.TheBlock.hidden-the_row-Link-4 Rattle.jx9_syntax.specs.declared.expression.Access.TheBlock.shown-the_row-Link-4
    Rattle.jx9_syntax.specs.declared.statement.Kind.TheViews.out-Kind Rattle.jx9_syntax.specs.declared.statement.Kind.TheViews.roll-Kind
    Rattle.jx9_syntax.specs.declared.statement.Kind.TheBlock.hidden-the_row-Statement-0 Rattle.jx9_syntax.specs.declared.statement.Kind.TheBlock.shown-the_row-Statement-0
    Rattle.jx9_syntax.specs.declared.statement.Kind.TheBlock.hidden-the_row-Branch-1 Rattle.jx9_syntax.specs.declared.statement.Kind.TheBlock.shown-the_row-Branch-1
    Rattle.jx9_syntax.specs.declared.statement.Kind.TheBlock.hidden-the_row-Statement-2 Rattle.jx9_syntax.specs.declared.statement.Kind.TheBlock.shown-the_row-Statement-2
    denote.Hole.Carrier.out denote.Hole.Carrier.roll denote.Hole.Carrier.shown denote.Hole.Carrier.hidden
trees = tt

unfoldable pub values : Unit {0}
unfolding Rattle.uq_value.specs.Size.leb_size Rattle.std.specs.Fmt.digits
values = tt

unfoldable pub meaning : Unit {0}
unfolding
    Rattle.jx9_meaning.specs.World.variable Rattle.jx9_meaning.specs.World.with_variable Rattle.jx9_meaning.specs.World.with_event
    Rattle.jx9_meaning.specs.Meaning.take Rattle.jx9_meaning.specs.Meaning.tell Rattle.jx9_meaning.specs.Meaning.fits Rattle.jx9_meaning.specs.Meaning.sized
    Rattle.jx9_meaning.specs.Operators.operate
    Rattle.jx9_meaning.specs.Expression.write_place Rattle.jx9_meaning.specs.Expression.place_steps Rattle.jx9_meaning.specs.Expression.path_step
    Rattle.jx9_meaning.specs.Expression.entry Rattle.jx9_meaning.specs.Expression.link Rattle.jx9_meaning.specs.Expression.step
    Rattle.jx9_meaning.specs.Expression.assign Rattle.jx9_meaning.specs.Expression.append_to Rattle.jx9_meaning.specs.Expression.change
    Rattle.jx9_meaning.specs.Expression.choice Rattle.jx9_meaning.specs.Expression.evaluated
    Rattle.jx9_meaning.specs.Statement.printed Rattle.jx9_meaning.specs.Statement.test Rattle.jx9_meaning.specs.Statement.executed
    Rattle.jx9_meaning.specs.Database.serve
    Rattle.jx9_meaning.specs.Script.enters Rattle.jx9_meaning.specs.Script.leaves Rattle.jx9_meaning.specs.Script.call_written
    Rattle.jx9_meaning.specs.Script.charged Rattle.jx9_meaning.specs.Script.result Rattle.jx9_meaning.specs.Script.call_host
    Rattle.jx9_meaning.specs.Script.call Rattle.jx9_meaning.specs.Script.run_within Rattle.jx9_meaning.specs.Script.expr_within
    Rattle.jx9_meaning.specs.Script.script_within Rattle.jx9_meaning.specs.Script.script
meaning = tt
