mod RowCode
