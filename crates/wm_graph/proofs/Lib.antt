mod ColumnLaws
mod CycleLaws
mod EdgeLaws
